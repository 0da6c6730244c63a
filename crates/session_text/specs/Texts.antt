-- How faults of lines are printed.
use Rattle.std.specs.Prelude.{ℕ, List, codes}
use Rattle.session_text.specs.declared.fault.LineFault.{LineFault}
use Rattle.session_text.specs.declared.fault.LineFault.TheVariants.{BadWords, BadUser, BadMoment, BadEvery, TooOften, NoEndWord, NoEndLine, NoScript, TooLong}

abbrev pub fault_text : LineFault → List ℕ
fault_text BadWords = codes "BadWords"
fault_text BadUser = codes "BadUser"
fault_text BadMoment = codes "BadMoment"
fault_text BadEvery = codes "BadEvery"
fault_text TooOften = codes "TooOften"
fault_text NoEndWord = codes "NoEndWord"
fault_text NoEndLine = codes "NoEndLine"
fault_text NoScript = codes "NoScript"
fault_text TooLong = codes "TooLong"

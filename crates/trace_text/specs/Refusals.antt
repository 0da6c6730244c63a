-- What is told of a trace that wasn't read.
use Rattle.std.specs.Prelude.{ℕ, List, ◌++◌, codes, decimal}
use Rattle.trace_text.specs.declared.fault.LineFault.{LineFault}
use Rattle.trace_text.specs.declared.fault.LineFault.TheVariants.{FieldCount, Field}
use Rattle.trace_text.specs.declared.fault.TraceRefusal.{TraceRefusal}
use Rattle.trace_text.specs.declared.fault.TraceRefusal.TheVariants.{Bad, Memory}

abbrev pub fault_text : LineFault → List ℕ
fault_text FieldCount = codes "number of fields"
fault_text (Field place) = codes "field " ++ decimal place

abbrev pub refusal_text : TraceRefusal → List ℕ
refusal_text (Bad bad) = codes "trace line " ++ decimal bad.line ++ codes ": " ++ fault_text bad.fault
refusal_text Memory = codes "out of memory"

-- The texts of a session beside its answers.
use Rattle.std.specs.Prelude.{ℕ, List, [], ◌++◌, codes, decimal}
use Rattle.session_text.specs.Texts.{fault_text}
use Rattle.session_text.specs.declared.fault.LineFault.{LineFault}
use Rattle.session_text.specs.declared.input.Input.{Input}
use Rattle.session_text.specs.declared.input.Input.TheVariants.{Text, Terminal}

-- what is written before a line is read
abbrev pub before : Input → List ℕ
before Text = []
before Terminal = codes "> "

-- what is written once it was read
abbrev pub behind : Input → List ℕ → List ℕ
behind Text line = codes "> " ++ line ++ codes "\n"
behind Terminal line = []

-- both together
abbrev pub shown : Input → List ℕ → List ℕ
shown input line = before input ++ behind input line

-- what is written at the end of the input
abbrev pub end_shown : Input → List ℕ
end_shown Text = []
end_shown Terminal = codes "\n"

-- what stands in front of what is told of a line that is refused or wrong, by the name of its file and its number
abbrev pub place_text : List ℕ → ℕ → List ℕ
place_text name number = name ++ codes ":" ++ decimal number ++ codes ": "

-- the line that tells what is wrong with it
abbrev pub fault_line : List ℕ → ℕ → LineFault → List ℕ
fault_line name number fault = place_text name number ++ codes "error: " ++ fault_text fault ++ codes "\n"

-- what help is answered
unfoldable pub help_text : List ℕ
help_text =
    codes "[MOMENT] COMMAND ..   asks as sbatch, squeue, scancel, scontrol, sinfo, sprio, report or pass do\n"
    ++ codes "every SECONDS COMMAND .. until MOMENT   asks again and again\n"
    ++ codes "at MOMENT   user NAME   stay until the next; quit ends it; # begins a comment\n"
    ++ codes "MOMENT: seconds since 1970, +SECONDS, or what --begin of sbatch takes\n"
    ++ codes "sbatch FILE takes its script from there; sbatch <<WORD from the lines up to one that is WORD\n"

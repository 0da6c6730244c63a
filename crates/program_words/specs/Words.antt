-- What the types of this crate say in the words of its definitions.
use Rattle.std.specs.Prelude.{◌≤◌, None}
use Rattle.slurm_client.specs.Requests.{FitsRequest}
use Rattle.plain_data.specs.Files.{named_by, text_of}
use Rattle.program_words.specs.Asked.{Asked, Script, Serve, Generate, Simulate, Call}
use Rattle.program_words.specs.Controller as spec
use Rattle.program_words.specs.declared.asked.Asked as told
use Rattle.program_words.specs.declared.asked.Asked.TheVariants as told_as
use Rattle.program_words.specs.declared.said.Said as read

-- what was read of the words
abbrev pub said_of : read.Said → spec.Said
said_of said = record {
  script = said.script;
  serve = said.serve;
  run = said.run;
  save = said.save;
  conf = text_of said.conf;
  assocs = text_of said.assocs;
  state = text_of said.state;
  port = text_of said.port;
  workers = text_of said.workers;
  sacct = text_of said.sacct;
  generate = text_of said.generate;
}

-- what is asked
abbrev pub asked_of : told.Asked → Asked
asked_of (told_as.Script words) = Script (named_by words.files) words.sacct words.save
asked_of (told_as.Serve words) = Serve (named_by words.files) words.port words.workers words.save
asked_of (told_as.Generate number) = Generate number
asked_of (told_as.Simulate number) = Simulate number
asked_of (told_as.Call call) = Call call

-- a server has from 1 to 64 workers; a call has a request that a server takes, as far as it goes without a script
abbrev pub Fits : told.Asked → Type 0
Fits (told_as.Serve words) = (1 ≤ words.workers) × (words.workers ≤ 64)
Fits (told_as.Call call) = FitsRequest call.user call.words None
Fits asked = Unit {0}

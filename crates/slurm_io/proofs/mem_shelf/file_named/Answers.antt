use Rattle.std.proofs.Common.{rules, tests}
use Rattle.std.proofs.lemmas.Iterator.{YieldsList-from_slice}
use Rattle.std.proofs.lemmas.Iterator.Search.{find_from_yields_List}
use Rattle.slurm_io.specs.MemShelf.{told_file}
use Rattle.slurm_io.specs.Shelf.{is_named}
use Rattle.slurm_io.proofs.mem_shelf.file_named.Goals as goal

pub returns : goal.returns
returns c = find_from_yields_List (λ file. is_named c.args.name.now (told_file file)) _ _ _ c.find.ensures.ran (YieldsList-from_slice c.args.files.now cc) (λ x b q k. search (rules, tests))

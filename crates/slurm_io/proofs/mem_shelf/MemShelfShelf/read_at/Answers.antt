use Rattle.std.proofs.Common.{◌≡◌, map, ap, ◌∙◌, refl}
use Rattle.slurm_io.specs.MemShelf.{told_file}
use Rattle.slurm_io.specs.Shelf.{bytes_named}
use Rattle.slurm_io.specs.Faults.{next_count}
use Rattle.slurm_io.proofs.Finds.{fails_alike}
use Rattle.slurm_io.proofs.mem_shelf.MemShelfShelf.read_at.Goals as goal

pub returns-in-None-clause-fails : goal.returns-in-None-clause-fails
returns-in-None-clause-fails c =
    let shelf = c.args.self.now in
    let name = c.args.name.now in
    let failing : c.deref-2.result.now ≡ shelf.failing = c.deref-2.ensures.value ∙ ap (λ s. s.failing) c.self.view_is in
    let number : c.saturating_add-self-inside.result ≡ next_count shelf.reads = c.saturating_add-self-inside.ensures ∙ ap (λ s. next_count s.reads) c.self.view_is in
    let files : map told_file c.deref.result.now ≡ shelf.files = ap (map told_file) c.deref.ensures.value ∙ ap (λ s. s.files) c.self.view_is in
    let found : bytes_named (map told_file c.deref.result.now) name ≡ bytes_named shelf.files name = ap (λ fs. bytes_named fs name) files in
    (λ _. fails_alike _ _ _ _ _ _ failing number found (c.in-None.ensures.none.0 refl), λ _. refl)

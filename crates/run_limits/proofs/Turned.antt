-- The order in which a walk meets users.
use Rattle.std.proofs.Common.{List, ap, sym, ◌∙◌}
use Rattle.std.specs.Cmp.{IsTotalOrder, IsStrictWeakOrder}
use Rattle.std.specs.Ordering.{ordering_reverse}
use Rattle.std.proofs.lemmas.Cmp.{lists_total}
use Rattle.std.proofs.lemmas.List.Sorted.{ranks_by}
use Rattle.run_limits.specs.declared.level.LevelFs.{LevelFs}
use Rattle.run_limits.specs.Paths.{level_order, levels_in, comes_first}
use Rattle.run_limits.proofs.LevelOrder.{fs_cmp-total}

level_order-total : IsTotalOrder level_order
level_order-total = record {
  antisymm = λ x y. fs_cmp-total.antisymm y x;
  trans = λ x y z first second. fs_cmp-total.trans z y x second first;
  congr = λ x y z e.
      let same = fs_cmp-total.congr x y z (fs_cmp-total.antisymm x y ∙ ap ordering_reverse e) in
      fs_cmp-total.antisymm z x ∙ ap ordering_reverse same ∙ sym (fs_cmp-total.antisymm z y);
}

pub comes_first-order : (levels : List LevelFs) → IsStrictWeakOrder (comes_first levels)
comes_first-order levels = ranks_by (lists_total level_order-total) (levels_in levels)

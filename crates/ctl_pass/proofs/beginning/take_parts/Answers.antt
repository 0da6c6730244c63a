use Rattle.std.proofs.Common.{◌≡◌, ◌+◌, [], ◌∷◌, ◌++◌, length, map, take, get_or, ap, sym, refl, ◌∙◌, arith}
use Rattle.std.proofs.lemmas.List.{get_or_default, take-map}
use Rattle.backfill_planner.specs.declared.Share.{Share}
use Rattle.ctl_pass.specs.Taking.{part_by}
use Rattle.ctl_pass.proofs.Begun.{fits-next, takes-more, takes-none}
use Rattle.ctl_pass.proofs.Lists.{take-map-more}
use Rattle.ctl_pass.proofs.beginning.take_parts.Goals as goal

pub loop-share-init : goal.loop-share-init
loop-share-init c = record {
  parts = c.requires.empty;
  held = rw c.requires.empty (takes-none c.args.nodes.now.held);
  records = refl;
  count = omega (arith, c.args.parts.now.ok.0, ap length c.requires.empty);
  room = c.requires.room;
}

pub take_part-requires : goal.take_part-requires
take_part-requires c =
    let nodes = c.args.nodes.now in
    let shares = c.args.shares.now in
    let i = c.loop-share.share-index in
    let so_far = c.loop-share.invariant in
    let nothing : Share = record { node = 0; tasks = 0; cpus = 0; mem = 0 } in
    let share = get_or shares i nothing in
    rw so_far.records (fits-next nodes.records nodes.held c.loop-share.nodes.held shares i share c.loop-share-test.true
    (get_or_default shares i nothing share c.loop-share-test.true) c.requires.fits c.requires.apart
    (rw so_far.parts at so_far.held)).0

pub loop-share-preserved : goal.loop-share-preserved
loop-share-preserved c =
    let nodes = c.args.nodes.now in
    let shares = c.args.shares.now in
    let i = c.loop-share.share-index in
    let so_far = c.loop-share.invariant in
    let nothing : Share = record { node = 0; tasks = 0; cpus = 0; mem = 0 } in
    let share = get_or shares i nothing in
    let is = get_or_default shares i nothing share c.loop-share-test.true in
    let part_of = part_by nodes.records nodes.held in
    let fits = fits-next nodes.records nodes.held c.loop-share.nodes.held shares i share c.loop-share-test.true is
    c.requires.fits c.requires.apart (rw so_far.parts at so_far.held) in
    let part : c.take_part.result ≡ part_of share = (rw so_far.records at c.take_part.ensures.part) ∙ fits.1 in
    let items : c.push.new.self.items ≡ c.loop-share.parts.items ++ c.take_part.result ∷ [] =
    rw c.unwrap.ensures at c.push.ensures.items in
    let more : map part_of (take (i + 1) shares) ≡ map part_of (take i shares) ++ part_of share ∷ [] =
    rw (take-map part_of (i + 1) shares, take-map part_of i shares) at
    (take-map-more part_of shares i share c.loop-share-test.true is) in
    record {
      parts = items ∙ rw (so_far.parts, part) (sym more);
      held = rw items (takes-more nodes.held c.loop-share.nodes.held c.take_part.new.nodes.held c.loop-share.parts.items
          c.take_part.result so_far.held c.take_part.ensures.held);
      records = c.take_part.ensures.records ∙ so_far.records;
      count = (rw c.unwrap.ensures at c.push.ensures.len) ∙ ap (λ count. count + 1) so_far.count;
      room = omega (arith, so_far.room, c.push.ensures.capacity);
    }

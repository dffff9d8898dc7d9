use Rattle.std.proofs.Common.{◌≡◌, drop, fold, map}
use Rattle.ets_term.specs.Encoding.{concat}
use Rattle.ets_term.specs.Writes.{writes}
use Rattle.ets_term.proofs.hash.+feed.Given as goal

abbrev pub invariant-feed_items-loop-item : goal.invariant-feed_items-loop-item
invariant-feed_items-loop-item g l = fold g.H.Hasher.write l.state (concat (map writes (drop l.item-index l.items))) ≡ fold g.H.Hasher.write l.initial.state (concat (map writes l.items))

-- A word is the word of its own link.
use Rattle.std.specs.Prelude.{◌≡◌, ℕ, ◌<◌, ◌^◌, ◌-◌, Bool, true, false, nat_eq, if◌then◌else◌, None, Some, refl}
use Rattle.std.proofs.lemmas.Bool.{eqb-true}
use Rattle.std.proofs.Common.{sym, ap}
use Rattle.node_list.specs.inside.Words.{link_in, word_of}
use Rattle.node_list.specs.declared.link.Link.TheInside.{Inside}

same-word : (p : ℕ) (b : Bool) → nat_eq p (2 ^ 32 - 1) ≡ b → word_of (if b then None else Some p) ≡ p
same-word p true e = sym (eqb-true p (2 ^ 32 - 1) e)
same-word p false e = refl

pub link_back : (a : Inside) → a.place < 2 ^ 32 → let r : Inside = record { place = word_of (link_in a.place) } in r ≡ a
link_back a h =
    ap (λ (z : ℕ). let r : Inside = record { place = z } in r)
    (same-word a.place (nat_eq a.place (2 ^ 32 - 1)) refl)

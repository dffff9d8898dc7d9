-- Split keys and their intervals.
use Rattle.std.proofs.Common.{◌≡◌, ◌≢◌, ℕ, ◌*◌, ◌/◌, ◌^◌, ◌<◌, ◌≤◌, inl, inr, List, [], ◌∷◌, Option, Some, None, is_some, false, nat_eq, ◌&&◌, refl, ◌∙◌, arith}
use Rattle.std.proofs.lemmas.Bool.{cases_lt}
use Rattle.std.proofs.lemmas.Bool.Decides.{nat_tests}
use Rattle.std.proofs.Math.Nat.{div-lt_iff_lt-mul}
use Rattle.split_key.specs.Keys.{rev, key_of_item}
use Rattle.split_key.proofs.Revs.{rev-lt}
use Rattle.node_list.specs.declared.node.Item.{Item}
use Rattle.node_list.specs.Cells.{Cell, Sorted, StartsFrom}
use Rattle.bucket_table.specs.inside.Intervals.{first_in}
use Rattle.bucket_table.proofs.hints.First.{first-on}

pub part-rises : (width a b : ℕ) → 0 < width → a ≤ b → a / width ≤ b / width
part-rises width a b some h =
    elim (cases_lt (b / width) (a / width)) [
      | inl less ↦
          let l : b < (a / width) * width = (div-lt_iff_lt-mul some).0 less in
          let m : a / width < a / width = (div-lt_iff_lt-mul some).1 (omega arith) in
          absurd (omega arith)
      | inr most ↦ most
    ]

pub item-small : (h : ℕ) → key_of_item h < 2 ^ 33
item-small h = let l : rev 32 h < 2 ^ 32 = rev-lt 32 h in omega arith

-- ---- nodes out of an interval

out-in : (a f : ℕ) (o : Option Item) → a ≢ f → (nat_eq a f && is_some o) ≡ false
out-in a f None h = grind (arith, nat_tests)
out-in a f (Some item) h = grind (arith, nat_tests)

starts-later : (low : ℕ) (c : Cell) (cs : List Cell) → low ≤ c.split_key → StartsFrom c.split_key cs → StartsFrom low cs
starts-later low c [] h s = tt
starts-later low c (d ∷ ds) h s = omega (arith, h, s)

pub none-from : (width g bound : ℕ) (cs : List Cell) → 0 < width → StartsFrom bound cs → Sorted cs → g < bound / width → first_in width g cs ≡ None
none-from width g bound [] some s o h = refl
none-from width g bound (c ∷ cs) some s o h =
    let r : bound / width ≤ c.split_key / width = part-rises width bound c.split_key some s in
    let n : c.split_key / width ≢ g = λ e. (let e' : c.split_key / width ≡ g = e in absurd (omega arith)) in
    first-on width g c cs (out-in (c.split_key / width) g c.item n) ∙ none-from width g bound cs some (starts-later bound c cs s o.0) o.1 h

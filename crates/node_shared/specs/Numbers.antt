-- The rule of the word from which process numbers are drawn.
use Rattle.std.specs.Prelude.{◌≡◌, ℕ, ◌+◌, ◌<◌, ◌≤◌, List, [], ◌∷◌}
use mathlib.Core.Option.{some}
use lib.ListN.{get_elem?}
use Rattle.atomic_table.specs.Table.{State}
use Rattle.node_shared.specs.declared.pids.rule.View.{View}
use Rattle.node_shared.specs.declared.pids.rule.View.TheVariants.{Opening, Undrawn, Drawn}

-- a seat that drew the number x
abbrev pub drawn_view : ℕ → View
drawn_view x = Drawn x

-- the number of process numbers that a seat may still draw, itself or by the seats split off it
abbrev pub numbers_left : View → ℕ
numbers_left (Opening n) = n
numbers_left Undrawn = 1
numbers_left (Drawn x) = 0

-- the same for all seats together
abbrev pub all_numbers_left : List View → ℕ
all_numbers_left [] = 0
all_numbers_left (v ∷ vs) = numbers_left v + all_numbers_left vs

-- seat i drew x
abbrev pub HasDrawn : List View → ℕ → ℕ → Type 0
HasDrawn views i x = get_elem? views i ≡ some (Drawn x)

-- With n seats: the drawn numbers are distinct, and they are all numbers below the word. The word and the numbers that
-- can still be drawn add up to n.
pub record IsNumbered (n word : ℕ) (views : List View) : Type 0 where
  pub distinct : (i j x : ℕ) → HasDrawn views i x → HasDrawn views j x → i ≡ j
  pub below : (i x : ℕ) → HasDrawn views i x → x < word
  pub all : (x : ℕ) → x < word → (i : ℕ) × HasDrawn views i x
  pub within : word + all_numbers_left views ≡ n
  pub few : n ≤ 4096

-- the rule that always holds of the word and the seats
abbrev pub HoldsNumbers : ℕ → State (Unit {0}) View → Type 0
HoldsNumbers n s = (word : ℕ) × (s.words ≡ word ∷ []) × IsNumbered n word s.views

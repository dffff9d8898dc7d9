-- What a step does to the cells of a book.
use Rattle.std.proofs.Common.{◌≡◌, ℕ, zero, suc, ◌<◌, true, false, List, [], ◌∷◌, ◌++◌, length, slice_set, refl, arith}
use Rattle.logbook.specs.Pages.{Cell, cell}
use Rattle.node_shared.specs.inside.Lines.{IsHome}

-- a cell that is at home is one of the cells
pub home-within : (cs : List Cell) (k : ℕ) → IsHome cs k → k < length cs
home-within [] k h = absurd (cc h)
home-within (c ∷ cs) zero h = omega arith
home-within (c ∷ cs) (suc k) h = let ih = home-within cs k h in omega (arith, ih)

-- the place after the last one is not at home
pub end-away : (cs : List Cell) → (cell cs (length cs)).1 ≡ false
end-away [] = refl
end-away (c ∷ cs) = end-away cs

-- cells that were at home stay so if one is brought home
pub set-keeps : (cs : List Cell) (q n j : ℕ) → IsHome cs j → IsHome (slice_set cs q (n, true)) j
set-keeps [] q n j h = absurd (cc h)
set-keeps (c ∷ cs) zero n zero h = refl
set-keeps (c ∷ cs) zero n (suc j) h = h
set-keeps (c ∷ cs) (suc q) n zero h = h
set-keeps (c ∷ cs) (suc q) n (suc j) h = set-keeps cs q n j h

pub set-brings : (cs : List Cell) (q n : ℕ) → q < length cs → IsHome (slice_set cs q (n, true)) q
set-brings [] q n low = absurd (omega arith)
set-brings (c ∷ cs) zero n low = refl
set-brings (c ∷ cs) (suc q) n low = set-brings cs q n (omega arith)

pub push-keeps : (cs : List Cell) (c : Cell) (j : ℕ) → IsHome cs j → IsHome (cs ++ c ∷ []) j
push-keeps [] c j h = absurd (cc h)
push-keeps (x ∷ cs) c zero h = h
push-keeps (x ∷ cs) c (suc j) h = push-keeps cs c j h

-- a cell is within the cells with another one written
pub within-set : (cs : List Cell) (q j : ℕ) (c : Cell) → j < length cs → j < length (slice_set cs q c)
within-set [] q j c low = absurd (omega arith)
within-set (x ∷ cs) zero j c low = low
within-set (x ∷ cs) (suc q) zero c low = omega arith
within-set (x ∷ cs) (suc q) (suc j) c low = let ih = within-set cs q j c (omega arith) in omega (arith, ih)

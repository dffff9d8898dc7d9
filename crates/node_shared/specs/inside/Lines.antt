-- The log of a history's book: lines of servers, each with an entry or none. A line says which pen may add the next one.
use Rattle.std.specs.Prelude.{◌≡◌, ◌⊎◌, ℕ, ◌==◌, ◌&&◌, Bool, true, false, if◌then◌else◌, List, [], ◌∷◌, ◌++◌, Option, None, Some}
use mathlib.Core.List.{IsPrefix}
use Rattle.logbook.specs.Pages.{Cell, cell, Book, Named, Step, View, may_make}
use Rattle.node_shared.specs.declared.entry.Entry.{Entry}
use Rattle.node_shared.specs.declared.history.rule.Line.{Line}
use Rattle.node_shared.specs.Journal.{is_entry_of, entries_of}

-- the name of a word of a book
abbrev pub word_of : Book → ℕ → Named
word_of b k = record { tracked = true; key = k; book = b }

-- the name of the word that all servers of a book share
abbrev pub head_of : Book → Named
head_of b = word_of b 0

-- a line that says nothing
abbrev pub no_line : Line
no_line = record { entry = None; chain = 0; next = 0; own = 0 }

-- all lines of a server, which its root names, or those with entries of a process
pub data Tag : Type 0 where
  of_server : ℕ → Tag
  of_process : ℕ → ℕ → Tag

abbrev pub has_entry_of : ℕ → Option Entry → Bool
has_entry_of p None = false
has_entry_of p (Some e) = is_entry_of p e

abbrev pub is_of : Tag → Line → Bool
is_of (of_server r) l = r == l.chain
is_of (of_process r p) l = (r == l.chain) && has_entry_of p l.entry

-- the key of the pen that may add the next line with this tag, by a line with it
abbrev pub key_of : Tag → Line → ℕ
key_of (of_server r) l = l.next
key_of (of_process r p) l = l.own

-- the first line of a server is added by the pen that its root names; that of a process by any pen of the server
abbrev pub first_of : Tag → Option ℕ
first_of (of_server r) = Some r
first_of (of_process r p) = None

abbrev pub turn_from : Tag → Option ℕ → List Line → Option ℕ
turn_from t k [] = k
turn_from t k (l ∷ ls) = turn_from t (if is_of t l then Some (key_of t l) else k) ls

-- the key of the pen that may add the next line with this tag
abbrev pub turn_of : Tag → List Line → Option ℕ
turn_of t log = turn_from t (first_of t) log

-- the tag of the server of the tag
abbrev pub server_of : Tag → Tag
server_of (of_server r) = of_server r
server_of (of_process r p) = of_server r

-- no line has this tag
abbrev pub Without : Tag → List Line → Type 0
Without t [] = Unit {0}
Without t (l ∷ ls) = (is_of t l ≡ false) × Without t ls

abbrev pub entry_if : Bool → Option Entry → List Entry
entry_if true (Some e) = e ∷ []
entry_if true None = []
entry_if false e = []

-- the history of a server: the entries of its lines
abbrev pub history_of : ℕ → List Line → List Entry
history_of r [] = []
history_of r (l ∷ ls) = entry_if (r == l.chain) l.entry ++ history_of r ls

abbrev pub IsHome : List Cell → ℕ → Type 0
IsHome cells k = (cell cells k).1 ≡ true

-- each line was added with a pen whose turn it was, and the pen's word was brought home then
pub record IsKept (cells : List Cell) (log : List Line) : Type 0 where
  pub word : IsHome cells 0
  pub spent : (t : Tag) (v : List Line) (l : Line) (k : ℕ) → IsPrefix (v ++ l ∷ []) log → is_of t l ≡ true → turn_of t v ≡ Some k → IsHome cells k

-- the pen with this key has added a line, so its word is at home
abbrev pub IsSpent : ℕ → List Line → Type 0
IsSpent k log =
    (t : Tag) × (v : List Line) × (l : Line) × IsPrefix (v ++ l ∷ []) log × (is_of t l ≡ true) × (turn_of t v ≡ Some k)

-- the log begins with m, and has no line with the tag after it
abbrev pub Since : Tag → List Line → List Line → Type 0
Since t m log = (rest : List Line) × (m ++ rest ≡ log) × Without t rest

-- whose turn it was after a beginning of v, by this pen, it still is
abbrev pub IsExact : List Line → ℕ → List Line → Type 0
IsExact v key log = (t : Tag) (m : List Line) → IsPrefix m v → turn_of t m ≡ Some key → Since t m log

-- it is this pen's turn; or it is so for the server, and the process has no line
abbrev pub MayTake : Tag → List Line → ℕ → Type 0
MayTake t v key =
    (m : List Line) × IsPrefix m v
    × ((turn_of t m ≡ Some key) ⊎ ((turn_of (server_of t) m ≡ Some key) × (turn_of t m ≡ None)))

-- the line may be added with this pen
abbrev pub MayAdd : List Line → ℕ → Line → Type 0
MayAdd v key l = (t : Tag) → is_of t l ≡ true → MayTake t v key

-- the pen may add an entry of p: it is its turn after m, or the server's history s has none of p
abbrev pub MayEnter : ℕ → ℕ → List Line → List Line → ℕ → Type 0
MayEnter r p s m key = (turn_of (of_process r p) m ≡ Some key) ⊎ (entries_of p (history_of r s) ≡ [])

-- the first line of a server with this root is still to come
abbrev pub IsNew : ℕ → List Line → Type 0
IsNew r log = (turn_of (of_server r) log ≡ Some r) × (history_of r log ≡ [])

-- a pen was made, whose key is no server's root yet
abbrev pub MakesPen : Step Line → View Line ℕ → ℕ → View Line ℕ → Type 0
MakesPen s v found w = (w.1.0.right ≡ may_make) × IsNew w.1.0.key w.0

-- a line was added last, by the pen with this key
abbrev pub IsAdded : List Line → ℕ → Line → List Line → Type 0
IsAdded v key l new = (log : List Line) × (new ≡ log ++ l ∷ []) × IsPrefix v log × IsExact v key log

-- the line was added, with the pen
abbrev pub AddsLine : Step Line → View Line ℕ → ℕ → View Line ℕ → Type 0
AddsLine s v found w = IsAdded v.0 v.1.0.key s.ask w.0

-- nothing was added, and the pen is kept
abbrev pub Confirms : Step Line → View Line ℕ → ℕ → View Line ℕ → Type 0
Confirms s v found w = (w.1.0 ≡ v.1.0) × IsExact v.0 v.1.0.key w.0

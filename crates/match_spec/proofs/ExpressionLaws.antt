-- What a tuple compiles to, by its first element.
use Rattle.std.proofs.Common.{◌≡◌, ◌≢◌, ℕ, suc, ◌<◌, ◌&&◌, ◌||◌, Bool, true, false, List, [], ◌∷◌, Some, None, map, length, get_or, take, drop, ◌-◌, codes, refl, sym, ap, ◌∙◌, arith}
use Rattle.std.proofs.lemmas.Grind.{common_steps}
use Rattle.std.specs.Str.{bytes_eq}
use Rattle.ets_term.specs.declared.term.Term.{Term}
use Rattle.ets_term.specs.declared.term.Term.TheVariants.{Atom, Tuple, List as Lst}
use Rattle.ets_term.specs.Data.{Data, int, atom, pid, tid, tuple, list, binary, DataList, no_terms, term, data_list, data_of}
use Rattle.ets_term.specs.Order.{data_list_len}
use Rattle.ets_term.specs.laws.Exact.{back, data_of-Tuple, data_of-List}
use Rattle.ets_term.specs.Trees.{term_of}
use Rattle.match_spec.specs.declared.expression.Expression.{Expression}
use Rattle.match_spec.specs.declared.expression.Expression.TheVariants.{Constant, Object, Tuple as Parts}
use Rattle.match_spec.specs.inside.CompiledExpressions.{expression_of, expressions_of, constant_else, call_expression}
use Rattle.match_spec.specs.inside.FirstPaths.{FirstPaths}
use Rattle.match_spec.specs.Expressions.{is_expression, are_expressions, is_constant}
use Rattle.match_spec.specs.inside.Functions.{is_function as is_function_by_enum}
use Rattle.match_spec.specs.Specifications.{clause_parts}
use Rattle.match_spec.proofs.CallLaws.{is_function-is}
use Rattle.match_spec.proofs.TreeLaws.{data_of-Atom}

pub data_list_len_of : (ts : List Term) → data_list_len (data_list (map data_of ts)) ≡ length ts
data_list_len_of [] = refl
data_list_len_of (t ∷ ts) = ap suc (data_list_len_of ts)

module _ (first : FirstPaths) where
  abbrev pub of : List Term → Expression
  of ts = expression_of first (tuple (data_list (map data_of ts)))

  abbrev pub application_of : List ℕ → List Term → Expression
  application_of f ts = constant_else f (data_list (map data_of ts)) (call_expression f (length ts) (expressions_of first (data_list (map data_of ts))))

  pub of-nothing : (ts : List Term) → length ts ≡ 0 → Object ≡ of ts
  of-nothing [] h = refl
  of-nothing (t ∷ ts) h = absurd (omega arith)

  pub of-tuple : (ts : List Term) (t : Term) (es : List Term) → length ts ≡ 1 → get_or ts 0 t ≡ t → t ≡ Tuple es → Parts (expressions_of first (data_list (map data_of es))) ≡ of ts
  of-tuple [] t es n at is = absurd (omega arith)
  of-tuple (u ∷ []) t es n at is = rw (at, is, data_of-Tuple es) refl
  of-tuple (u ∷ v ∷ ts) t es n at is = absurd (omega arith)

  pub of-tuples : (ts : List Term) (t : Term) (es : List Term) → 0 < length ts → length ts ≢ 1 → get_or ts 0 t ≡ t → t ≡ Tuple es → Object ≡ of ts
  of-tuples [] t es n m at is = absurd (omega arith)
  of-tuples (u ∷ []) t es n m at is = absurd (m refl)
  of-tuples (u ∷ v ∷ ts) t es n m at is = rw (at, is, data_of-Tuple es) refl

  pub of-atom : (ts : List Term) (t : Term) (f : List ℕ) → 0 < length ts → get_or ts 0 t ≡ t → t ≡ Atom f → application_of f (drop 1 ts) ≡ of ts
  of-atom [] t f n at is = absurd (omega arith)
  of-atom (u ∷ ts) t f n at is = rw (at, is, data_of-Atom f, data_list_len_of ts) refl

  by_first : (t : Term) (ds : DataList) (d : Data) → data_of t ≡ d → ((es : List Term) → t ≡ Tuple es → ⊥) → ((a : List ℕ) → t ≡ Atom a → ⊥) → Object ≡ expression_of first (tuple (term d ds))
  by_first t ds (int n) e p q = refl
  by_first t ds (atom a) e p q = absurd (q a (sym (back t) ∙ ap term_of e))
  by_first t ds (pid n) e p q = refl
  by_first t ds (tid n) e p q = refl
  by_first t ds (tuple es) e p q = absurd (p _ (sym (back t) ∙ ap term_of e))
  by_first t ds (list es) e p q = refl
  by_first t ds (binary s) e p q = refl

  pub of-other : (ts : List Term) (t : Term) → 0 < length ts → get_or ts 0 t ≡ t → ((es : List Term) → t ≡ Tuple es → ⊥) → ((a : List ℕ) → t ≡ Atom a → ⊥) → Object ≡ of ts
  of-other [] t n at p q = absurd (omega arith)
  of-other (u ∷ ts) t n at p q = rw at (by_first t _ (data_of t) refl p q)

pub constant_else-one : (f : List ℕ) (ts : List Term) (t : Term) (e : Expression) → length ts ≡ 1 → get_or ts 0 t ≡ t → bytes_eq f (codes "const") ≡ true → Constant t ≡ constant_else f (data_list (map data_of ts)) e
constant_else-one f [] t e n at is = absurd (omega arith)
constant_else-one f (u ∷ []) t e n at is = rw (at, is) (ap Constant (sym (back t)))
constant_else-one f (u ∷ v ∷ ts) t e n at is = absurd (omega arith)

pub constant_else-other : (f : List ℕ) (ts : List Term) (e : Expression) → length ts ≢ 1 → e ≡ constant_else f (data_list (map data_of ts)) e
constant_else-other f [] e h = refl
constant_else-other f (u ∷ []) e h = absurd (h refl)
constant_else-other f (u ∷ v ∷ ts) e h = refl

pub constant_else-named : (f : List ℕ) (ts : List Term) (e : Expression) → bytes_eq f (codes "const") ≡ false → e ≡ constant_else f (data_list (map data_of ts)) e
constant_else-named f [] e h = refl
constant_else-named f (u ∷ []) e h = rw h refl
constant_else-named f (u ∷ v ∷ ts) e h = refl

-- all terms after the first
pub rest-whole : (ts : List Term) → take (length ts - 1) (drop 1 ts) ≡ drop 1 ts
rest-whole ts = grind (arith, common_steps)

module _ (ns : List ℕ) where
  abbrev pub is : List Term → Bool
  is ts = is_expression ns (tuple (data_list (map data_of ts)))

  pub is-tuple : (ts : List Term) (t : Term) (es : List Term) → length ts ≡ 1 → get_or ts 0 t ≡ t → t ≡ Tuple es → are_expressions ns (data_list (map data_of es)) ≡ is ts
  is-tuple [] t es n at is = absurd (omega arith)
  is-tuple (u ∷ []) t es n at is = rw (at, is, data_of-Tuple es) refl
  is-tuple (u ∷ v ∷ ts) t es n at is = absurd (omega arith)

  pub is-tuples : (ts : List Term) (t : Term) (es : List Term) → 0 < length ts → length ts ≢ 1 → get_or ts 0 t ≡ t → t ≡ Tuple es → false ≡ is ts
  is-tuples [] t es n m at is = absurd (omega arith)
  is-tuples (u ∷ []) t es n m at is = absurd (m refl)
  is-tuples (u ∷ v ∷ ts) t es n m at is = rw (at, is, data_of-Tuple es) refl

  pub is-atom : (ts : List Term) (t : Term) (f : List ℕ) → 0 < length ts → get_or ts 0 t ≡ t → t ≡ Atom f
      → (is_constant f (length ts - 1) || (is_function_by_enum f (length ts - 1) && are_expressions ns (data_list (map data_of (drop 1 ts))))) ≡ is ts
  is-atom [] t f n at is = absurd (omega arith)
  is-atom (u ∷ ts) t f n at is =
      let len : length (u ∷ ts) - 1 ≡ data_list_len (data_list (map data_of ts)) = omega (arith, data_list_len_of ts) in
      ap (λ b. is_constant f (length (u ∷ ts) - 1) || (b && are_expressions ns (data_list (map data_of ts)))) (is_function-is f (length (u ∷ ts) - 1))
      ∙ rw (at, is, data_of-Atom f, len) refl

  by_kind : (t : Term) (ds : DataList) (d : Data) → data_of t ≡ d → ((es : List Term) → t ≡ Tuple es → ⊥) → ((a : List ℕ) → t ≡ Atom a → ⊥) → false ≡ is_expression ns (tuple (term d ds))
  by_kind t ds (int n) e p q = refl
  by_kind t ds (atom a) e p q = absurd (q a (sym (back t) ∙ ap term_of e))
  by_kind t ds (pid n) e p q = refl
  by_kind t ds (tid n) e p q = refl
  by_kind t ds (tuple es) e p q = absurd (p _ (sym (back t) ∙ ap term_of e))
  by_kind t ds (list es) e p q = refl
  by_kind t ds (binary s) e p q = refl

  pub is-other : (ts : List Term) (t : Term) → 0 < length ts → get_or ts 0 t ≡ t → ((es : List Term) → t ≡ Tuple es → ⊥) → ((a : List ℕ) → t ≡ Atom a → ⊥) → false ≡ is ts
  is-other [] t n at p q = absurd (omega arith)
  is-other (u ∷ ts) t n at p q = rw at (by_kind t _ (data_of t) refl p q)

-- the parts of a clause
no_list : (pattern : Data) (ds : DataList) (t : Term) (d : Data) → data_of t ≡ d → ((es : List Term) → t ≡ Lst es → ⊥) → None ≡ clause_parts (tuple (term pattern (term d ds)))
no_list pattern ds t (int n) e p = refl
no_list pattern ds t (atom a) e p = refl
no_list pattern ds t (pid n) e p = refl
no_list pattern ds t (tid n) e p = refl
no_list pattern ds t (tuple es) e p = refl
no_list pattern ds t (list es) e p = absurd (p _ (sym (back t) ∙ ap term_of e))
no_list pattern ds t (binary s) e p = refl

no_body : (pattern : Data) (cs : DataList) (t : Term) (d : Data) → data_of t ≡ d → ((es : List Term) → t ≡ Lst es → ⊥) → None ≡ clause_parts (tuple (term pattern (term (list cs) (term d no_terms))))
no_body pattern cs t (int n) e p = refl
no_body pattern cs t (atom a) e p = refl
no_body pattern cs t (pid n) e p = refl
no_body pattern cs t (tid n) e p = refl
no_body pattern cs t (tuple es) e p = refl
no_body pattern cs t (list es) e p = absurd (p _ (sym (back t) ∙ ap term_of e))
no_body pattern cs t (binary s) e p = refl

unlike_three : (pattern : Data) (d : Data) (ds : DataList) → (data_list_len ds ≡ 1 → ⊥) → None ≡ clause_parts (tuple (term pattern (term d ds)))
unlike_three pattern (list cs) no_terms h = refl
unlike_three pattern (list cs) (term (int n) no_terms) h = refl
unlike_three pattern (list cs) (term b no_terms) h = absurd (h refl)
unlike_three pattern (list cs) (term (list bs) (term x ds)) h = refl
unlike_three pattern (list cs) (term b (term x ds)) h = refl
unlike_three pattern d ds h = refl

pub parts-length : (ts : List Term) → length ts ≢ 3 → None ≡ clause_parts (tuple (data_list (map data_of ts)))
parts-length [] h = refl
parts-length (a ∷ []) h = refl
parts-length (a ∷ b ∷ ts) h = unlike_three (data_of a) (data_of b) (data_list (map data_of ts)) (λ e. h (omega (arith, data_list_len_of ts, e)))

pub parts-conditions : (ts : List Term) (t : Term) → length ts ≡ 3 → get_or ts 1 t ≡ t → ((es : List Term) → t ≡ Lst es → ⊥) → None ≡ clause_parts (tuple (data_list (map data_of ts)))
parts-conditions [] t n at p = absurd (omega arith)
parts-conditions (a ∷ []) t n at p = absurd (omega arith)
parts-conditions (a ∷ b ∷ ts) t n at p = rw at (no_list (data_of a) _ t (data_of t) refl p)

pub parts-body : (ts : List Term) (t u : Term) (cs : List Term) → length ts ≡ 3 → get_or ts 1 t ≡ t → t ≡ Lst cs → get_or ts 2 u ≡ u → ((es : List Term) → u ≡ Lst es → ⊥) → None ≡ clause_parts (tuple (data_list (map data_of ts)))
parts-body [] t u cs n at is here p = absurd (omega arith)
parts-body (a ∷ []) t u cs n at is here p = absurd (omega arith)
parts-body (a ∷ b ∷ []) t u cs n at is here p = absurd (omega arith)
parts-body (a ∷ b ∷ c ∷ []) t u cs n at is here p = rw (at, is, data_of-List cs, here) (no_body (data_of a) _ u (data_of u) refl p)
parts-body (a ∷ b ∷ c ∷ d ∷ ts) t u cs n at is here p = absurd (omega arith)

pub parts-three : (ts : List Term) (h t u : Term) (cs bs : List Term) → length ts ≡ 3 → get_or ts 0 h ≡ h → get_or ts 1 t ≡ t → t ≡ Lst cs → get_or ts 2 u ≡ u → u ≡ Lst bs
    → Some (record { pattern = data_of h; conditions = data_list (map data_of cs); body = data_list (map data_of bs) }) ≡ clause_parts (tuple (data_list (map data_of ts)))
parts-three [] h t u cs bs n first at is here it = absurd (omega arith)
parts-three (a ∷ []) h t u cs bs n first at is here it = absurd (omega arith)
parts-three (a ∷ b ∷ []) h t u cs bs n first at is here it = absurd (omega arith)
parts-three (a ∷ b ∷ c ∷ []) h t u cs bs n first at is here it = rw (first, at, is, data_of-List cs, here, it, data_of-List bs) refl
parts-three (a ∷ b ∷ c ∷ d ∷ ts) h t u cs bs n first at is here it = absurd (omega arith)

-- How the state of a table is coded.
use Rattle.std.specs.Prelude.{Bool, List, refl}
use Rattle.std.specs.Coded.{Coded, code_by, coded×, coded_ℕ, coded_list, coded_bool}
use Rattle.std.specs.FinMap as map
use Rattle.table_ops.specs.Content.{Content}
use Rattle.table_ops.specs.inside.Codes.{content_code}
use Rattle.fixed_walk.specs.Fixes.{FixCounts}
use Rattle.fixed_walk.specs.TableState.{TableState}

abbrev pub state_code : Coded TableState
state_code =
    code_by
    (Content × (List Bool × FixCounts))
    (coded× content_code (coded× (coded_list coded_bool) (map.code coded_ℕ coded_ℕ)))
    (λ f. (f.content, (f.buckets, f.fixes)))
    (λ p. record { content = p.0; buckets = p.1.0; fixes = p.1.1 })
    (λ _. refl)

use Rattle.std.proofs.Common.{◌≡◌, List, Option, ℕ, length, sym, subst, ◌∷◌}
use Rattle.bucket_table.specs.inside.Segments.{links_in}
use Rattle.bucket_table.proofs.directory.Segments.{length-written}
use Rattle.bucket_table.proofs.split.directory.Directory.len.Goals as goal

pub returns : goal.returns
returns c =
    let P : List (Option ℕ) → Type 0 = λ v. c.self.inside.buckets ≡ length v in
    subst P c.self.view_is (sym (length-written (links_in (c.self.inside.first_segment ∷ c.self.inside.later_segments.items)) c.self.inside.buckets))

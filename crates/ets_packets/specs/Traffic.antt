-- What passes through a reader and a writer.
use Rattle.std.specs.Prelude.{ℕ, List, Option}

-- the bytes before and after: those that a reader still has to give, or those that a writer has taken
pub record Flow : Type 0 where
  pub before : Option (List ℕ)
  pub after : Option (List ℕ)

-- the flow of a reader or writer from one state to another, by the function that gives its bytes
abbrev pub flow : {S : Type 0} → (S → Option (List ℕ)) → S → S → Flow
flow known old new = record { before = known old; after = known new }

-- what passes through a reader and a writer
pub record Traffic : Type 0 where
  pub reader : Flow
  pub writer : Flow

abbrev pub traffic : Flow → Flow → Traffic
traffic reader writer = record { reader = reader; writer = writer }

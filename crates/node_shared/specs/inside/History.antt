-- Placeholders for the name and the limits of a history.
use Rattle.logbook.specs.Pages.{Book}
use Rattle.node_core.specs.declared.limits.Limits.{Limits}

-- a placeholder for the book of a history
abbrev pub no_book : Book
no_book = record { number = 0; log_name = 0; cells_name = 0 }

-- a placeholder for the limits of a node
abbrev pub no_limits : Limits
no_limits = record { processes = 0; tables = 0; objects = 0 }

-- The tags of the External Term Format.
use Rattle.std.specs.Prelude.{ℕ, ◌==◌, ◌||◌, if◌then◌else◌}
use Rattle.external_term.specs.declared.field.Width.TheVariants.{One, Two, Four}
use Rattle.external_term.specs.declared.tag.Tag.{Tag}
use Rattle.external_term.specs.declared.tag.Tag.TheVariants.{SmallInteger, Integer, SmallBig, Atom, Tuple, Nil, String, List, Binary, NewPid, Pid, NewerReference, NewReference, Reference, Unknown}

-- the meaning of a byte as a tag; the width is that of the length that follows the tag
abbrev pub tag_of : ℕ → Tag
tag_of b =
    if b == 97 then SmallInteger
    else if b == 98 then Integer
    else if b == 110 then SmallBig
    else if (b == 119) || (b == 115) then Atom One
    else if (b == 118) || (b == 100) then Atom Two
    else if b == 104 then Tuple One
    else if b == 105 then Tuple Four
    else if b == 106 then Nil
    else if b == 107 then String
    else if b == 108 then List
    else if b == 109 then Binary
    else if b == 88 then NewPid
    else if b == 103 then Pid
    else if b == 90 then NewerReference
    else if b == 114 then NewReference
    else if b == 101 then Reference
    else Unknown

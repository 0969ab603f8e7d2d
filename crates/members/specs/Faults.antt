-- One chunk as a member of a FORM or a group: its header, and its faults (02, P9).
use Rattle.std.specs.Prelude.{ℕ, ◌+◌, ◌%◌, List, Bool, ◌&&◌, ◌||◌, not, get_or, drop, eqb, leb, ltb}
use Rattle.blorb.specs.Bytes.{rd32}
use Rattle.blorb.specs.Verdict.{Verdict, ◌then◌, check}
use Rattle.members.specs.declared.Kind.{Kind}
use Rattle.members.specs.declared.Place.{Place}
use Rattle.members.specs.Kinds.{kind_of, nests, is_plain, may_hold_of}

-- the chunk at offset at: its kind, its data length, the end of its data, and where the next one begins
abbrev pub kind_at : List ℕ → ℕ → Kind
kind_at f at = kind_of (rd32 (drop at f))

abbrev pub size_at : List ℕ → ℕ → ℕ
size_at f at = rd32 (drop (at + 4) f)

abbrev pub end_at : List ℕ → ℕ → ℕ
end_at f at = at + 8 + size_at f at

abbrev pub next_at : List ℕ → ℕ → ℕ
next_at f at = end_at f at + size_at f at % 2

-- 41 does not hold: the header is whole, the size stays in the parent, and "a group, FORM or PROP" has 4 data bytes
unfoldable pub fits : List ℕ → ℕ → ℕ → Bool
fits f end at = leb (at + 8) end && (leb (end_at f at) end && (is_plain (kind_at f at) || leb 4 (size_at f at)))

-- 44 does not hold: no padding byte is asked for, or it is there, in the parent, and zero
unfoldable pub padded : List ℕ → ℕ → ℕ → Bool
padded f end at = eqb (size_at f at % 2) 0 || (ltb (end_at f at) end && eqb (get_or f (end_at f at) 0) 0)

-- The faults of one chunk, which stands at p in a parent that ends at end, at this depth; "each at the chunk's start", "at one place in this order":
-- 41 "a header cut short, a size running past its parent, or a group, FORM or PROP of under 4 data bytes", 42 "a FORM or group deeper than 16",
-- 43 "a member that its parent may not have, another kind of top", 44 "a nonzero or missing padding byte"
unfoldable pub member_fault_of : List ℕ → Place → ℕ → ℕ → ℕ → Verdict
member_fault_of f p depth end at =
    check (fits f end at) 41 at
    then check (not (nests (kind_at f at) && ltb 16 depth)) 42 at
    then check (may_hold_of p (kind_at f at)) 43 at
    then check (padded f end at) 44 at

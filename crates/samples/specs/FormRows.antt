-- What a row of the group files' samples says, and the pieces that their files are made of.
use Rattle.blorb.specs.declared.refusal.Refusal.{Refusal}
use Rattle.groups.specs.declared.part.Picked.{Picked}
use Rattle.std.specs.Prelude.{◌≡◌, ℕ, zero, suc, List, [], ◌∷◌, ◌++◌, length, Result}
use Rattle.blorb.specs.Bytes.{be32}
use Rattle.blorb.specs.Tags.{tag, FORM}
use Rattle.members.specs.Kinds.{CAT}
use Rattle.groups.specs.Files.{list_of, listed, pick_of}

pub data FormRow : Type 0 where
  -- a file, a slice, the answer of listing the file's FORMs there, and the slice afterwards
  lists : List ℕ → List ℕ → Result ℕ Refusal → List ℕ → FormRow
  -- a file, a row, and the answer of picking it
  picks : List ℕ → ℕ → Result Picked Refusal → FormRow

abbrev pub FormRowHolds : FormRow → Type 0
FormRowHolds (lists f t answer after) = (list_of f (length t) ≡ answer) × (listed f t ≡ after)
FormRowHolds (picks f i answer) = pick_of f i ≡ answer

-- a chunk with this type and these bytes, without padding
abbrev pub part : ℕ → List ℕ → List ℕ
part t d = be32 t ++ (be32 (length d) ++ d)

abbrev pub ILBM : ℕ
ILBM = tag 73 76 66 77

-- a FORM, group or PROP with its four bytes before the members
abbrev pub holder : ℕ → List ℕ → List ℕ
holder t d = part t (be32 ILBM ++ d)

-- n CATs in one another, around d
abbrev pub nested : ℕ → List ℕ → List ℕ
nested zero d = d
nested (suc n) d = holder CAT (nested n d)

-- a FORM of nothing, a plain chunk of two bytes, and one of a byte with this padding byte
abbrev pub empty : List ℕ
empty = holder FORM []

abbrev pub even : List ℕ
even = part (tag 66 79 68 89) (1 ∷ (2 ∷ []))

abbrev pub odd : ℕ → List ℕ
odd pad = part (tag 66 79 68 89) (1 ∷ []) ++ (pad ∷ [])

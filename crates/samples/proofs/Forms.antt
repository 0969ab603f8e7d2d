-- Samples of the artists' group files (02, P9), in one table under a single statement. What the code does follows by its contracts, which are equations
-- with the definitions that these rows compute (list_of, listed, pick_of).
use Rattle.std.specs.Prelude.{Ok, Result}
use Rattle.blorb.specs.declared.refusal.Refusal.{Refusal}
use Rattle.blorb.specs.Refusals.{Refused}
use mathlib.Core.Path.{refl}
use Prim.Native.Nat.{ℕ}
use mathlib.Core.List.{List, [], ◌∷◌, ◌++◌}
use lib.ListN.{replicate}
use Rattle.blorb.specs.All.{All}
use Rattle.blorb.specs.Bytes.{be32, rd32}
use Rattle.blorb.specs.Tags.{FORM}
use Rattle.blorb.specs.Verdict.{◌then◌, check}
use Rattle.members.specs.Kinds.{LIST, CAT, PROP, kind_of}
use Rattle.members.specs.Faults.{fits, padded, member_fault_of}
use Rattle.groups.specs.Events.{members_go, members, chunk}
use Rattle.groups.specs.Files.{first_fault, forms, file_fault, rows_numbers, list_of, listed, pick_of}
use Rattle.samples.specs.Files.{B}
use Rattle.samples.specs.FormRows.{FormRow, lists, picks, FormRowHolds, ILBM, holder, nested, empty, even, odd}

computed : ℕ
unfolding be32 rd32 ◌then◌ check kind_of fits padded member_fault_of members_go members chunk first_fault forms file_fault rows_numbers list_of listed pick_of
computed = 0

-- a LIST of a PROP, a CAT with a FORM in it, and a FORM of a chunk and a FORM
abbrev mixed : List ℕ
mixed = holder LIST (holder PROP even ++ (holder CAT empty ++ holder FORM (odd 0 ++ empty)))

unfoldable pub form_samples : List FormRow
form_samples =
    -- its three FORMs, just enough room and a number too few; the buffer behind the last row stays
    lists mixed (replicate 12 9) (Ok 3) (ILBM ∷ (46 ∷ (4 ∷ (3 ∷ (ILBM ∷ (58 ∷ (26 ∷ (2 ∷ (ILBM ∷ (80 ∷ (4 ∷ (3 ∷ [])))))))))))) ∷ (
    lists mixed (replicate 11 9) (Refused 45 0) (replicate 11 9) ∷ (
    lists empty (replicate 5 9) (Ok 1) (ILBM ∷ (0 ∷ (4 ∷ (1 ∷ (9 ∷ []))))) ∷ (
    -- 01's file B is a FORM of chunks
    lists B (replicate 4 9) (Ok 1) (1229345363 ∷ (0 ∷ (68 ∷ (1 ∷ [])))) ∷ (
    -- a PROP behind a FORM; bytes after the top
    lists (holder LIST (empty ++ holder PROP [])) [] (Refused 43 24) [] ∷ (
    lists (empty ++ (0 ∷ [])) [] (Refused 43 12) [] ∷ (
    -- 16 levels, 17
    lists (nested 15 empty) (replicate 4 9) (Ok 1) (ILBM ∷ (180 ∷ (4 ∷ (16 ∷ [])))) ∷ (
    lists (nested 16 empty) [] (Refused 42 192) [] ∷ (
    -- a padding byte that isn't zero; an outer one before a fault inside, and that fault by itself
    lists (holder FORM (odd 1)) [] (Refused 44 12) [] ∷ (
    lists (holder FORM (7 ∷ []) ++ (1 ∷ [])) [] (Refused 44 0) [] ∷ (
    lists (holder FORM (7 ∷ []) ++ (0 ∷ [])) [] (Refused 41 12) [] ∷ (
    -- header in and padding out, or 22
    picks mixed 1 (Ok (record { start = 58; length = 34 })) ∷ (
    picks mixed 3 (Refused 22 0) ∷ []))))))))))))

-- each row is as the definitions compute it
pub form_samples_lem : All FormRowHolds form_samples
unfolding computed form_samples
form_samples_lem = (
  (refl, refl),
  (
    (refl, refl),
    (
      (refl, refl),
      (
        (refl, refl),
        (
          (refl, refl),
          (
            (refl, refl),
            (
              (refl, refl),
              (
                (refl, refl),
                ((refl, refl), ((refl, refl), ((refl, refl), (refl, (refl, tt))))),
              ),
            ),
          ),
        ),
      ),
    ),
  ),
)

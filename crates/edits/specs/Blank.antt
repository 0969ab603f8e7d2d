-- The blank file (01, The edits: "a blank file is the same 24 bytes wherever it is made: 'FORM' 16 'IFRS' 'RIdx' 4 0").
use Rattle.std.specs.Prelude.{ℕ, List, ◌++◌, cond, length, drop, leb}
use Rattle.blorb.specs.Bytes.{be32}
use Rattle.blorb.specs.Tags.{FORM, IFRS, RIdx}

unfoldable pub blank_file : List ℕ
blank_file = be32 FORM ++ (be32 16 ++ (be32 IFRS ++ (be32 RIdx ++ (be32 4 ++ be32 0))))

-- a buffer once a blank file is made in it: "the bytes past 24 stay"; "a buffer under 24 bytes: .. untouched"
unfoldable pub blanked : List ℕ → List ℕ
blanked b = cond (leb 24 (length b)) (blank_file ++ drop 24 b) b

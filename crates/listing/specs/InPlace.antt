-- Text written into a buffer piece by piece, and an entry's line by offsets in the file.
use Rattle.std.specs.Prelude.{ℕ, ◌+◌, ◌-◌, ◌≡◌, List, ◌++◌, length, drop}
use Rattle.std.proofs.lemmas.List.Edits.{sets}
use Rattle.blorb.specs.Bytes.{be32, rd32}
use Rattle.blorb.specs.Lookup.{left_out_of}
use Rattle.index.specs.Entries.{usage_at, number_at, start_at}
use Rattle.listing.specs.Text.{text, decimal}
use Rattle.listing.specs.declared.Page.{Page}

-- the buffer `out` with t written into it from `from` on is `after`, and t ends at `to`
abbrev pub Wrote : List ℕ → ℕ → List ℕ → ℕ → List ℕ → Type 0
Wrote out from t to after = (to ≡ from + length t) × (after ≡ sets out from t)

-- a page with t written behind what it had, in the same buffer
abbrev pub Writes : Page → List ℕ → Page → Type 0
Writes before t after =
    Wrote before.out.now before.at t after.at after.out.now × (after.out.ghost_name ≡ before.out.ghost_name) × (length after.out.now ≡ length before.out.now)

-- the line of the entry at p: its fields, then type of the chunk that starts where it says and length of what a lookup gives of it
unfoldable pub fields_at : List ℕ → ℕ → List ℕ
fields_at f p = be32 (usage_at f p) ++ text " " ++ decimal (number_at f p) ++ text " at " ++ decimal (start_at f p)

-- how long that is, of the chunk at x
abbrev pub given_size : List ℕ → ℕ → ℕ
given_size f x = 8 + rd32 (drop (x + 4) f) - left_out_of (rd32 (drop x f))

unfoldable pub chunk_text : List ℕ → ℕ → List ℕ
chunk_text f x = text " " ++ be32 (rd32 (drop x f)) ++ text " " ++ decimal (given_size f x) ++ text "\n"

unfoldable pub line_at : List ℕ → ℕ → List ℕ
line_at f p = fields_at f p ++ chunk_text f (start_at f p)

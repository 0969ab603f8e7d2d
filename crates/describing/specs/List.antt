-- A list of descriptions as it is lent (02, P7: "write the whole chunk from a list: whole rows of usage, number, place and length (32 bits each) over a
-- lent slice of texts").
use Rattle.std.specs.Prelude.{ℕ, zero, suc, ◌+◌, ◌*◌, ◌/◌, List, [], ◌∷◌, length, take, drop, get_or}
use Rattle.rdes.specs.Rdes.{Desc, desc}

-- the four numbers of row i
abbrev pub usage_of : List ℕ → ℕ → ℕ
usage_of rows i = get_or rows (4 * i) 0

abbrev pub number_of : List ℕ → ℕ → ℕ
number_of rows i = get_or rows (4 * i + 1) 0

abbrev pub place_of : List ℕ → ℕ → ℕ
place_of rows i = get_or rows (4 * i + 2) 0

abbrev pub length_of : List ℕ → ℕ → ℕ
length_of rows i = get_or rows (4 * i + 3) 0

-- its text
abbrev pub row_text : List ℕ → List ℕ → ℕ → List ℕ
row_text rows texts i = take (length_of rows i) (drop (place_of rows i) texts)

abbrev pub row_at : List ℕ → List ℕ → ℕ → Desc
row_at rows texts i = desc (usage_of rows i) (number_of rows i) (row_text rows texts i)

-- n rows from row i on
unfoldable pub rows_from : List ℕ → List ℕ → ℕ → ℕ → List Desc
rows_from rows texts zero i = []
rows_from rows texts (suc n) i = row_at rows texts i ∷ rows_from rows texts n (i + 1)

-- "whole rows": a partial last one is none
abbrev pub count_of : List ℕ → ℕ
count_of rows = length rows / 4

abbrev pub list_of : List ℕ → List ℕ → List Desc
list_of rows texts = rows_from rows texts (count_of rows) 0

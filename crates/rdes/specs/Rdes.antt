-- The data of an 'RDes' chunk (02, P7): "a count, then entries of usage, number, text length, text". d are the data, at an offset in them.
use Rattle.std.specs.Prelude.{ℕ, zero, suc, ◌+◌, ◌<◌, List, [], ◌∷◌, ◌++◌, Bool, false, ◌&&◌, ◌||◌, not, length, take, drop, eqb, leb}
use Rattle.blorb.specs.Bytes.{be32, rd32}
use Rattle.blorb.specs.Tags.{tag}
use Rattle.blorb.specs.Sound.{W}
use Rattle.blorb.specs.Verdict.{Verdict, accept, ◌then◌, check}
use Rattle.utf8.specs.Utf8.{good_length_of}

abbrev pub RDes : ℕ
RDes = tag 82 68 101 115

-- a description: the pair of a resource, and its text
pub record Desc : Type 0 where
  pub usage : ℕ
  pub number : ℕ
  pub text : List ℕ

abbrev pub desc : ℕ → ℕ → List ℕ → Desc
desc u k t = record { usage = u; number = k; text = t }

-- the data that hold these: the count, and the entries one behind the other
unfoldable pub entries_bytes : List Desc → List ℕ
entries_bytes [] = []
entries_bytes (e ∷ es) = be32 e.usage ++ (be32 e.number ++ (be32 (length e.text) ++ (e.text ++ entries_bytes es)))

unfoldable pub body_of : List Desc → List ℕ
body_of ds = be32 (length ds) ++ entries_bytes ds

-- the numbers fit their fields
pub record Fits (e : Desc) : Type 0 where
  pub usage_fits : e.usage < W
  pub number_fits : e.number < W
  pub text_fits : length e.text < W

-- the entry at an offset: usage, number, the length of its text, its text, and where the next entry stands
abbrev pub usage_at : List ℕ → ℕ → ℕ
usage_at d at = rd32 (drop at d)

abbrev pub number_at : List ℕ → ℕ → ℕ
number_at d at = rd32 (drop (at + 4) d)

abbrev pub size_at : List ℕ → ℕ → ℕ
size_at d at = rd32 (drop (at + 8) d)

abbrev pub text_at : List ℕ → ℕ → List ℕ
text_at d at = take (size_at d at) (drop (at + 12) d)

abbrev pub next_at : List ℕ → ℕ → ℕ
next_at d at = at + 12 + size_at d at

-- where the entry stands that has i entries between it and the one at at
unfoldable pub offset_of : List ℕ → ℕ → ℕ → ℕ
offset_of d zero at = at
offset_of d (suc i) at = offset_of d i (next_at d at)

-- n entries from at on fill the data exactly
unfoldable pub fills_from : List ℕ → ℕ → ℕ → Bool
fills_from d zero at = eqb at (length d)
fills_from d (suc n) at = leb (at + 12) (length d) && (leb (next_at d at) (length d) && fills_from d n (next_at d at))

-- not 37, "entries don't fill it exactly": there is a count, and so many entries behind it
unfoldable pub fills : List ℕ → Bool
fills d = leb 4 (length d) && fills_from d (rd32 d) 4

-- the descriptions that n entries from at on hold
unfoldable pub descs_from : List ℕ → ℕ → ℕ → List Desc
descs_from d zero at = []
descs_from d (suc n) at = desc (usage_at d at) (number_at d at) (text_at d at) ∷ descs_from d n (next_at d at)

-- those that the data hold
abbrev pub descs_of : List ℕ → List Desc
descs_of d = descs_from d (rd32 d) 4

-- one of these has the pair (u, k)
unfoldable pub pair_among : ℕ → ℕ → List Desc → Bool
pair_among u k [] = false
pair_among u k (e ∷ es) = (eqb e.usage u && eqb e.number k) || pair_among u k es

-- the text is UTF-8 by RFC 3629 (proofs of `utf8`, Longest, whole)
abbrev pub good_text : List ℕ → Bool
good_text t = eqb (good_length_of t) (length t)

-- of the entries from the file's offset p on: "38 a repeated pair, place that entry, 39 bad text, place the first byte behind its longest good
-- beginning", "entry by entry, 38 before 39"; earlier: the entries before these
unfoldable pub entries_fault : List Desc → ℕ → List Desc → Verdict
entries_fault earlier p [] = accept
entries_fault earlier p (e ∷ es) =
    check (not (pair_among e.usage e.number earlier)) 38 p
    then check (good_text e.text) 39 (p + 12 + good_length_of e.text)
    then entries_fault (earlier ++ (e ∷ [])) (p + 12 + length e.text) es

-- of the 'RDes' at x in the file that has these data: 37 "at the chunk's start", "37 before its entries"
unfoldable pub chunk_fault : List ℕ → ℕ → Verdict
chunk_fault d x = check (fills d) 37 x then entries_fault [] (x + 12) (descs_of d)

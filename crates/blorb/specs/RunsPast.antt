-- Refusal 6 as 01 has it, before 02 (P1) told its reasons apart, and a walk by any chunk's faults. Nothing is checked by these: they are here so that
-- proofs/RunsPast.antt can say what the change keeps.
use Rattle.std.specs.Prelude.{◌≡◌, ℕ, zero, suc, ◌+◌, ◌%◌, List, [], ◌∷◌, Bool, ◌||◌, not, ◌⊎◌, length, get_or, drop, eqb, leb}
use Rattle.blorb.specs.Bytes.{rd32}
use Rattle.blorb.specs.Format.{sized, chunks_of}
use Rattle.blorb.specs.Verdict.{Verdict, accept, refuse, ◌then◌, check, head_fault, chunk_fault, Rules, layout_fault}

-- 01's 6: "header, data or padding runs past the end"; of the chunk that s begins with
unfoldable pub runs_past : List ℕ → Bool
runs_past s = not (leb 8 (length s)) || not (leb (sized (rd32 (drop 4 s))) (length s))

-- 01's faults of the chunk that s begins with, at offset at: 6 at its start, then 7 at its padding byte
unfoldable pub past_fault : ℕ → List ℕ → Verdict
past_fault at s =
    check (not (runs_past s)) 6 at
    then check (eqb (rd32 (drop 4 s) % 2) 0 || eqb (get_or s (8 + rd32 (drop 4 s)) 0) 0) 7 (at + (8 + rd32 (drop 4 s)))

-- the three refusals that stand for 01's 6 now, of the chunk that s begins with, at offset at: 6 at its start, 28 at its length field, 29 at the
-- file's end
abbrev pub BrokenOff : ℕ → List ℕ → Verdict → Type 0
BrokenOff at s v = (v ≡ refuse 6 at) ⊎ ((v ≡ refuse 28 (at + 4)) ⊎ (v ≡ refuse 29 (at + length s)))

-- the first chunk with a fault: where it starts and what stands from there on; or there is none
pub data Faulty : Type 0 where
  none : Faulty
  first : ℕ → List ℕ → Faulty

abbrev pub unless_faulty : Verdict → Faulty → Faulty → Faulty
unless_faulty accept here rest = rest
unless_faulty (refuse k p) here rest = here

-- the first chunk of s, which stands at offset at, that has a fault by `fault`; k bounds the number of chunks
unfoldable pub first_faulty : (ℕ → List ℕ → Verdict) → ℕ → ℕ → List ℕ → Faulty
first_faulty fault zero at s = none
first_faulty fault (suc k) at [] = none
first_faulty fault (suc k) at (b ∷ s) =
    unless_faulty
    (fault at (b ∷ s))
    (first at (b ∷ s))
    (first_faulty fault k (at + sized (rd32 (drop 4 (b ∷ s)))) (drop (sized (rd32 (drop 4 (b ∷ s)))) (b ∷ s)))

-- what is wrong with it
unfoldable pub fault_of : (ℕ → List ℕ → Verdict) → Faulty → Verdict
fault_of fault none = accept
fault_of fault (first at s) = fault at s

abbrev pub StartsAt : ℕ → Faulty → Type 0
StartsAt p none = ⊥
StartsAt p (first at s) = at ≡ p

-- the three refusals of a whole file f, whose verdict is v: the first faulty chunk starts at p, and v is 6 there, 28 at its length field or 29 at the
-- file's end
abbrev pub BrokenAt : List ℕ → ℕ → Verdict → Type 0
BrokenAt f p v =
    StartsAt p (first_faulty chunk_fault (length f) 12 (drop 12 f)) × ((v ≡ refuse 6 p) ⊎ ((v ≡ refuse 28 (p + 4)) ⊎ (v ≡ refuse 29 (length f))))

-- the whole table with 01's 6: as `verdict` but for the walk
unfoldable pub past_verdict : Rules → List ℕ → Verdict
past_verdict R f = head_fault f then (fault_of past_fault (first_faulty past_fault (length f) 12 (drop 12 f)) then layout_fault R (chunks_of f))

-- Reading what was written: chunks and entries of an encoded model.
use mathlib.Core.Path.{◌≡◌, refl, sym, ap, ◌∙◌}
use Prim.Native.Nat.{ℕ, zero, suc, ◌+◌, ◌*◌, ◌≤◌, ◌<◌, ◌%◌}
use mathlib.Core.List.{List, [], ◌∷◌, ◌++◌, append_assoc}
use native.Mathlib.Omega.{arith}
use native.Mathlib.Nat.{le_of_suc-le-suc, not-suc-le-zero}
use lib.ListN.{length, get_or, take, drop, replicate, length-append, length-replicate}
use lib.Seq.{take_at, drop_at, drop-drop}
use Rattle.blorb.specs.Bytes.{be32, rd32}
use Rattle.blorb.proofs.ByteLaws.{length-be32, rd32-be32, drop-be32, drop_two, drop_three}
use Rattle.blorb.specs.Tags.{FORM, IFRS}
use Rattle.blorb.specs.Format.{
  Chunk,
  Entry,
  size,
  sized,
  total,
  chunk_bytes,
  chunks_bytes,
  file_bytes,
  chunk_in,
  chunks_in,
  chunks_of,
  entry_from,
  entries_in,
  entry_bytes,
  entries_bytes,
  index_chunk,
  entries_of,
}
use Rattle.blorb.specs.All.{All}
use Rattle.blorb.proofs.Places.{size_pos, body-size}
use Rattle.blorb.specs.Sound.{W, ChunkOk}

pub length-chunk_bytes : (c : Chunk) → length (chunk_bytes c) ≡ size c
unfolding chunk_bytes size sized
length-chunk_bytes c = simp (length-append, length-be32, length-replicate) (omega arith)

pub length-chunks_bytes : (cs : List Chunk) → length (chunks_bytes cs) ≡ total cs
unfolding chunks_bytes total
length-chunks_bytes [] = refl
length-chunks_bytes (c ∷ cs) = simp (length-append, length-chunk_bytes, length-chunks_bytes cs)

pub length-file_bytes : (cs : List Chunk) → length (file_bytes cs) ≡ 12 + total cs
unfolding file_bytes
length-file_bytes cs = simp (length-append, length-be32, length-chunks_bytes) (omega arith)

-- the first chunk's fields, in bytes that begin with it
module _ (c : Chunk) (s : List ℕ) where
  chunk_split : chunk_bytes c ++ s ≡ be32 c.type ++ (be32 (length c.body) ++ (c.body ++ (replicate (length c.body % 2) 0 ++ s)))
  unfolding chunk_bytes
  chunk_split = simp append_assoc

  pub first_type : c.type < W → rd32 (chunk_bytes c ++ s) ≡ c.type
  first_type h = rw chunk_split (rd32-be32 c.type (be32 (length c.body) ++ (c.body ++ (replicate (length c.body % 2) 0 ++ s))) h)

  pub first-length : length c.body < W → rd32 (drop 4 (chunk_bytes c ++ s)) ≡ length c.body
  first-length h = rw (chunk_split, drop-be32 c.type) (rd32-be32 (length c.body) (c.body ++ (replicate (length c.body % 2) 0 ++ s)) h)

  pub first_body : take (length c.body) (drop 8 (chunk_bytes c ++ s)) ≡ c.body
  first_body = rw (chunk_split, drop_two) (take_at c.body (replicate (length c.body % 2) 0 ++ s) (length c.body) refl)

  pub first_rest : drop (sized (length c.body)) (chunk_bytes c ++ s) ≡ s
  unfolding size
  first_rest = drop_at (chunk_bytes c) s (sized (length c.body)) (length-chunk_bytes c)

  chunk_in-first : c.type < W → length c.body < W → chunk_in (chunk_bytes c ++ s) ≡ c
  unfolding chunk_in
  chunk_in-first ht hb = rw (first_type ht, first-length hb, first_body)

pub chunks_in-step : (k : ℕ) (s : List ℕ) → 0 < length s → chunks_in (suc k) s ≡ chunk_in s ∷ chunks_in k (drop (sized (rd32 (drop 4 s))) s)
unfolding chunks_in
chunks_in-step k [] h = absurd (not-suc-le-zero h)
chunks_in-step k (b ∷ s) h = refl

pub chunks_in-nil : (k : ℕ) → chunks_in k [] ≡ []
unfolding chunks_in
chunks_in-nil zero = refl
chunks_in-nil (suc k) = refl

pub chunks_in-chunks_bytes : (k : ℕ) (cs : List Chunk) → All ChunkOk cs → total cs < W → length cs ≤ k → chunks_in k (chunks_bytes cs) ≡ cs
unfolding chunks_bytes total
chunks_in-chunks_bytes k [] ok small h = chunks_in-nil k
chunks_in-chunks_bytes zero (c ∷ cs) ok small h = absurd (not-suc-le-zero h)
chunks_in-chunks_bytes (suc k) (c ∷ cs) ok small h =
    let l = body-size c in
    let hb : length c.body < W = omega arith in
    rw (
      chunks_in-step k (chunk_bytes c ++ chunks_bytes cs) (simp (length-append, length-chunk_bytes) (omega (arith, size_pos c))),
      first-length c (chunks_bytes cs) hb,
      chunk_in-first c (chunks_bytes cs) ok.0.type_fits hb,
      first_rest c (chunks_bytes cs),
    )
    (ap (λ (r : List Chunk). c ∷ r) (chunks_in-chunks_bytes k cs ok.1 (omega arith) (le_of_suc-le-suc h)))

chunks_fewer : (cs : List Chunk) → length cs ≤ total cs
unfolding total
chunks_fewer [] = omega arith
chunks_fewer (c ∷ cs) = omega (arith, size_pos c, chunks_fewer cs)

pub drop_header : (cs : List Chunk) → drop 12 (file_bytes cs) ≡ chunks_bytes cs
unfolding file_bytes
drop_header cs = drop_three FORM (4 + total cs) IFRS (chunks_bytes cs)

pub chunks_of-file_bytes : (cs : List Chunk) → All ChunkOk cs → total cs < W → chunks_of (file_bytes cs) ≡ cs
unfolding chunks_of
chunks_of-file_bytes cs ok small =
    rw (length-file_bytes cs, drop_header cs) (chunks_in-chunks_bytes (12 + total cs) cs ok small (omega (arith, chunks_fewer cs)))

-- entries
entry_first : (e : Entry) (s : List ℕ) → e.usage < W → e.number < W → e.start < W → (entry_from (entry_bytes e ++ s) ≡ e) × (drop 12 (entry_bytes e ++ s) ≡ s)
unfolding entry_from
entry_first e s hu hn hs =
    let split : entry_bytes e ++ s ≡ be32 e.usage ++ (be32 e.number ++ (be32 e.start ++ s)) = unfold entry_bytes in simp append_assoc in
    rw split (
      rw (
        rd32-be32 e.usage (be32 e.number ++ (be32 e.start ++ s)) hu,
        drop-be32 e.usage,
        rd32-be32 e.number (be32 e.start ++ s) hn,
        drop_two e.usage e.number (be32 e.start ++ s),
        rd32-be32 e.start s hs,
      ),
      drop_three e.usage e.number e.start s,
    )

pub record EntryOk (e : Entry) : Type 0 where
  pub usage_fits : e.usage < W
  pub number_fits : e.number < W
  pub start_fits : e.start < W

pub entries_in-entries_bytes : (es : List Entry) → All EntryOk es → entries_in (length es) (entries_bytes es) ≡ es
unfolding entries_in entries_bytes
entries_in-entries_bytes [] ok = refl
entries_in-entries_bytes (e ∷ es) ok =
    let p = entry_first e (entries_bytes es) ok.0.usage_fits ok.0.number_fits ok.0.start_fits in
    rw (p.0, p.1) (ap (λ (r : List Entry). e ∷ r) (entries_in-entries_bytes es ok.1))

-- entry i of some that are followed by s
pub entry_in : (es : List Entry) (i : ℕ) (d : Entry) (s : List ℕ) → All EntryOk es → i < length es → entry_from (drop (12 * i) (entries_bytes es ++ s))
    ≡ get_or es i d
unfolding entries_bytes
entry_in [] i d s ok h = absurd (not-suc-le-zero h)
entry_in (e ∷ es) zero d s ok h =
    ap entry_from (append_assoc (entry_bytes e) (entries_bytes es) s)
    ∙ (entry_first e (entries_bytes es ++ s) ok.0.usage_fits ok.0.number_fits ok.0.start_fits).0
entry_in (e ∷ es) (suc i) d s ok h =
    let l : List ℕ = entry_bytes e ++ entries_bytes es ++ s in
    let q : 12 * suc i ≡ 12 + 12 * i = omega arith in
    let t : drop 12 l ≡ entries_bytes es ++ s
    = ap (drop 12) (append_assoc (entry_bytes e) (entries_bytes es) s) ∙ (entry_first e (entries_bytes es ++ s) ok.0.usage_fits ok.0.number_fits
    ok.0.start_fits).1 in
    ap (λ (z : ℕ). entry_from (drop z l)) q ∙ ap entry_from (sym (drop-drop (12 * i) 12 l) ∙ ap (drop (12 * i)) t) ∙ entry_in es i d s ok.1 (le_of_suc-le-suc h)

pub length-entries_bytes : (es : List Entry) → length (entries_bytes es) ≡ 12 * length es
unfolding entries_bytes entry_bytes
length-entries_bytes [] = refl
length-entries_bytes (e ∷ es) = simp (length-append, length-be32, length-entries_bytes es) (omega arith)

pub entries_of-index_chunk : (es : List Entry) → All EntryOk es → length es < W → entries_of (index_chunk es) ≡ es
unfolding entries_of index_chunk
entries_of-index_chunk es ok h = rw (rd32-be32 (length es) (entries_bytes es) h, drop-be32 (length es)) (entries_in-entries_bytes es ok)

-- An accepted file is the file of its model, and that model is sound.
use mathlib.Core.Path.{◌≡◌, refl, sym, ap, ◌∙◌}
use Prim.Native.Nat.{ℕ, zero, suc, ◌+◌, ◌*◌, ◌≤◌, ◌<◌, ◌%◌}
use mathlib.Core.List.{List, [], ◌∷◌, ◌++◌, map, append_assoc}
use mathlib.Core.Bool.{true, ◌||◌}
use native.Mathlib.Omega.{arith}
use native.Mathlib.Nat.{not-suc-le-zero, add-zero}
use lib.ListN.{length, get_or, take, drop, replicate, length-map, length-drop, take-append-drop}
use lib.Seq.{drop-drop, take-add, length-take-le, get_or-drop}
use lib.Dec.{eqb}
use borrow.Author.Tests.{eqb-true, leb-true}
use Rattle.blorb.specs.Bytes.{be32, rd32, Byte}
use Rattle.blorb.proofs.ByteLaws.{be32-rd32}
use Rattle.blorb.specs.Format.{
  Ref,
  ref_of,
  Chunk,
  Entry,
  size,
  sized,
  total,
  chunk_bytes,
  chunks_bytes,
  file_bytes,
  chunk_in,
  chunks_in,
  chunks_of,
  entry_from,
  entries_in,
  entry_bytes,
  entries_bytes,
  index_chunk,
  entries_of,
  is_start,
}
use Rattle.blorb.specs.Tags.{FORM, IFRS, RIdx}
use Rattle.blorb.specs.Verdict.{Rules, accept, head_fault, chunk_fault, walk_fault, index_fault, entries_fault, rest_fault, layout_fault, verdict}
use Rattle.blorb.specs.Model.{base, entry_of, file, model, model_of_chunks}
use Rattle.blorb.specs.All.{All}
use Rattle.blorb.proofs.AllLaws.{all_take, all_drop, all_imp}
use Rattle.blorb.specs.Sound.{W, ChunkOk, RefOk, Sound}
use Rattle.blorb.proofs.Places.{start_of-place_of}
use Rattle.blorb.proofs.Checks.{then_accept, check_accept, and_both}
use Rattle.blorb.proofs.Codec.{length-chunks_bytes}
use Rattle.blorb.proofs.EntryList.{length-entries_in}

-- Rattle's fact of a slice of u8, at each index
pub bytes-all : (s : List ℕ) → ((i : ℕ) → get_or s i 0 < 256) → All Byte s
bytes-all [] h = tt
bytes-all (b ∷ s) h = (h 0, bytes-all s (λ i. h (suc i)))

-- four bytes read and written again
pub again : (s : List ℕ) → All Byte s → 4 ≤ length s → be32 (rd32 s) ≡ take 4 s
again (a ∷ (b ∷ (c ∷ (d ∷ s)))) h l = be32-rd32 a b c d s h.0 h.1.0 h.1.1.0 h.1.1.1.0
again [] h l = absurd (not-suc-le-zero l)
again (a ∷ []) h l = absurd (omega arith)
again (a ∷ (b ∷ [])) h l = absurd (omega arith)
again (a ∷ (b ∷ (c ∷ []))) h l = absurd (omega arith)

byte_at : (s : List ℕ) (i : ℕ) → All Byte s → get_or s i 0 < 256
byte_at [] i h = omega arith
byte_at (b ∷ s) zero h = h.0
byte_at (b ∷ s) (suc i) h = byte_at s i h.1

pub rd32_small : (s : List ℕ) → All Byte s → rd32 s < W
unfolding rd32
rd32_small s h = omega (arith, byte_at s 0 h, byte_at s 1 h, byte_at s 2 h, byte_at s 3 h)

-- a padding byte, if there is one, is zero
pad_zero : (r : ℕ) (t : List ℕ) → r < 2 → r ≤ length t → (eqb r 0 || eqb (get_or t 0 0) 0) ≡ true → take r t ≡ replicate r 0
pad_zero zero t h l e = refl
pad_zero (suc zero) [] h l e = absurd (not-suc-le-zero l)
pad_zero (suc zero) (b ∷ t) h l e = λ i. eqb-true b 0 e i ∷ []
pad_zero (suc (suc r)) t h l e = absurd (omega arith)

sized_pos : (m : ℕ) → 8 ≤ sized m
unfolding sized
sized_pos m = omega arith

-- one chunk
chunk_back : (at : ℕ) (s : List ℕ) → All Byte s → chunk_fault at s ≡ accept
    → (chunk_bytes (chunk_in s) ≡ take (sized (rd32 (drop 4 s))) s) × (sized (rd32 (drop 4 s)) ≤ length s)
unfolding chunk_fault chunk_bytes chunk_in sized
chunk_back at s h ok =
    let m : ℕ = rd32 (drop 4 s) in
    let q = then_accept _ _ (then_accept _ _ (then_accept _ _ ok).1).1 in
    let long : 8 + (m + m % 2) ≤ length s = leb-true _ _ (check_accept _ _ _ q.0) in
    let zero-pad : (eqb (m % 2) 0 || eqb (get_or s (8 + m) 0) 0) ≡ true = check_accept _ _ _ q.1 in
    let lm : length (take m (drop 8 s)) ≡ m = length-take-le m (drop 8 s) (simp length-drop (omega arith)) in
    let e1 : be32 (rd32 s) ≡ take 4 s = again s h (omega arith) in
    let e2 : be32 m ≡ take 4 (drop 4 s) = again (drop 4 s) (all_drop Byte 4 s h) (simp length-drop (omega arith)) in
    let e3 : take (m % 2) (drop m (drop 8 s)) ≡ replicate (m % 2) 0
    = pad_zero (m % 2) (drop m (drop 8 s)) (omega arith) (simp length-drop (omega arith)) (rw (drop-drop m 8 s, get_or-drop (8 + m) s 0 0, add-zero (8 + m))
    zero-pad) in
    let e4 : 4 + (4 + (m + m % 2)) ≡ 8 + (m + m % 2) = omega arith in (
      rw (lm, e1, e2, ← e3, ← take-add m (m % 2) (drop 8 s), ← drop-drop 4 4 s, ← take-add 4 (m + m % 2) (drop 4 s), ← take-add 4 (4 + (m + m % 2)) s)
          (ap (λ (k : ℕ). take k s) e4),
      long,
    )

-- a chunk as it is read from bytes
pub record ReadOk (c : Chunk) : Type 0 where
  pub type_small : c.type < W
  pub body_bytes : All Byte c.body

read_ok : (s : List ℕ) → All Byte s → ReadOk (chunk_in s)
unfolding chunk_in
read_ok s h = record { type_small = rd32_small s h; body_bytes = all_take Byte (rd32 (drop 4 s)) (drop 8 s) (all_drop Byte 8 s h) }

-- all chunks
pub walk-back : (k at : ℕ) (s : List ℕ) → All Byte s → length s ≤ k → walk_fault k at s ≡ accept → (chunks_bytes (chunks_in k s) ≡ s) × All ReadOk (chunks_in k s)
unfolding walk_fault chunks_in chunks_bytes
walk-back zero at [] h l ok = (refl, tt)
walk-back zero at (b ∷ s) h l ok = absurd (not-suc-le-zero l)
walk-back (suc k) at [] h l ok = (refl, tt)
walk-back (suc k) at (b ∷ s) h l ok =
    let n : ℕ = sized (rd32 (drop 4 (b ∷ s))) in
    let p = then_accept (chunk_fault at (b ∷ s)) (walk_fault k (at + n) (drop n (b ∷ s))) ok in
    let c = chunk_back at (b ∷ s) h p.0 in
    let shorter : length (drop n (b ∷ s)) ≤ k = rw (length-drop n (b ∷ s)) (omega (arith, sized_pos (rd32 (drop 4 (b ∷ s))))) in
    let r = walk-back k (at + n) (drop n (b ∷ s)) (all_drop Byte n (b ∷ s) h) shorter p.1 in
    (rw (c.0, r.0) (take-append-drop n (b ∷ s)), (read_ok (b ∷ s) h, r.1))

three_fours : (s : List ℕ) → take 4 s ++ (take 4 (drop 4 s) ++ take 4 (drop 8 s)) ≡ take 12 s
three_fours s = rw (← drop-drop 4 4 s, ← take-add 4 4 (drop 4 s), ← take-add 4 8 s)

four_fours : (s : List ℕ) → take 4 s ++ (take 4 (drop 4 s) ++ (take 4 (drop 8 s) ++ drop 12 s)) ≡ s
four_fours s = rw (← append_assoc (take 4 (drop 4 s)) (take 4 (drop 8 s)) (drop 12 s), ← append_assoc (take 4 s), three_fours s) (take-append-drop 12 s)

-- the header
header_back : (f : List ℕ) (cs : List Chunk) → All Byte f → 12 ≤ length f → rd32 f ≡ FORM → rd32 (drop 8 f) ≡ IFRS → 8 + rd32 (drop 4 f) ≡ length f
    → chunks_bytes cs ≡ drop 12 f → file_bytes cs ≡ f
unfolding file_bytes
header_back f cs h long e3 e4 e5 eq =
    let t : 4 + total cs ≡ rd32 (drop 4 f) = omega (arith, length-chunks_bytes cs, simp length-drop at (ap length eq)) in
    rw (
      t,
      ← e3,
      ← e4,
      eq,
      again f h (omega arith),
      again (drop 4 f) (all_drop Byte 4 f h) (simp length-drop (omega arith)),
      again (drop 8 f) (all_drop Byte 8 f h) (simp length-drop (omega arith)),
    )
    (four_fours f)

-- the index
entry-back : (s : List ℕ) → All Byte s → 12 ≤ length s → entry_bytes (entry_from s) ≡ take 12 s
unfolding entry_bytes entry_from
entry-back s h l =
    rw (
      again s h (omega arith),
      again (drop 4 s) (all_drop Byte 4 s h) (simp length-drop (omega arith)),
      again (drop 8 s) (all_drop Byte 8 s h) (simp length-drop (omega arith)),
    )
    (three_fours s)

entries-back : (n : ℕ) (s : List ℕ) → All Byte s → length s ≡ 12 * n → entries_bytes (entries_in n s) ≡ s
unfolding entries_bytes entries_in
entries-back zero [] h l = refl
entries-back zero (b ∷ s) h l = absurd (omega arith)
entries-back (suc n) s h l =
    rw (entry-back s h (omega arith), entries-back n (drop 12 s) (all_drop Byte 12 s h) (simp length-drop (omega arith))) (take-append-drop 12 s)

pub index_back : (c : Chunk) → ReadOk c → c.type ≡ RIdx → index_fault c.body ≡ accept → (index_chunk (entries_of c) ≡ c)
    × (12 + size c ≡ base (length (entries_of c)))
unfolding index_chunk entries_of index_fault size sized base
index_back c ok ty fault =
    let d : List ℕ = c.body in
    let q = and_both _ _ (check_accept _ _ _ (then_accept _ _ fault).0) in
    let l4 : 4 ≤ length d = leb-true _ _ q.0 in
    let l : length d ≡ 4 + 12 * rd32 d = eqb-true _ _ q.1 in
    let e : be32 (length (entries_in (rd32 d) (drop 4 d))) ++ entries_bytes (entries_in (rd32 d) (drop 4 d)) ≡ d
    = rw (
      length-entries_in (rd32 d) (drop 4 d),
      again d ok.body_bytes l4,
      entries-back (rd32 d) (drop 4 d) (all_drop Byte 4 d ok.body_bytes)
          (simp length-drop (omega arith)),
    )
    (take-append-drop 4 d) in
    (λ i. record { type = sym ty i; body = e i }, rw (length-entries_in (rd32 d) (drop 4 d)) (omega arith))

-- the entries' starts
module _ (R : Rules) where
  pub starts_ok : (at : ℕ) (cs : List Chunk) (earlier : List Ref) (p : ℕ) (es : List Entry) → entries_fault R at cs earlier p es ≡ accept
      → All (λ e. is_start e.start at cs ≡ true) es
  unfolding entries_fault
  starts_ok at cs earlier p [] h = tt
  starts_ok at cs earlier p (e ∷ es) h =
      let a = then_accept _ _ (then_accept _ _ h).1 in
      (check_accept _ _ _ a.0, starts_ok at cs (earlier ++ (ref_of at cs e ∷ [])) (p + 12) es (then_accept _ _ (then_accept _ _ a.1).1).1)

pub entry_of-ref_of : (at : ℕ) (cs : List Chunk) (es : List Entry) → All (λ e. is_start e.start at cs ≡ true) es
    → map (entry_of at cs) (map (ref_of at cs) es) ≡ es
unfolding ref_of entry_of
entry_of-ref_of at cs [] ok = refl
entry_of-ref_of at cs (e ∷ es) ok =
    λ i. record { usage = e.usage; number = e.number; start = (start_of-place_of e.start at cs ok.0).0 i } ∷ entry_of-ref_of at cs es ok.1 i

pub record EntryRead (e : Entry) : Type 0 where
  pub usage_small : e.usage < W
  pub number_small : e.number < W

entries-read : (n : ℕ) (s : List ℕ) → All Byte s → All EntryRead (entries_in n s)
unfolding entries_in entry_from
entries-read zero s h = tt
entries-read (suc n) s h =
    (record { usage_small = rd32_small s h; number_small = rd32_small (drop 4 s) (all_drop Byte 4 s h) }, entries-read n (drop 12 s) (all_drop Byte 12 s h))

refs_ok : (at : ℕ) (cs : List Chunk) (es : List Entry) → All EntryRead es → All (λ e. is_start e.start at cs ≡ true) es → All (RefOk (length cs))
    (map (ref_of at cs) es)
unfolding ref_of
refs_ok at cs [] h k = tt
refs_ok at cs (e ∷ es) h k = (
  record { usage_fits = h.0.usage_small; number_fits = h.0.number_small; chunk_there = (start_of-place_of e.start at cs k.0).1 },
  refs_ok at cs es
      h.1 k.1,
)

-- the whole file
module _ (R : Rules) where
  layout-back : (cs : List Chunk) → All ReadOk cs → layout_fault R cs ≡ accept
      → (index_chunk (map (entry_of (base (length (model_of_chunks cs).refs)) (model_of_chunks cs).chunks) (model_of_chunks cs).refs) ∷ (model_of_chunks cs).chunks ≡ cs) × Sound (model_of_chunks cs)
  unfolding layout_fault model_of_chunks rest_fault entries_of
  layout-back [] ok h = (cc, record { refs_ok = tt; chunks_ok = tt })
  layout-back (c ∷ cs) ok h =
      let a = then_accept _ _ h in
      let d = then_accept _ _ (then_accept _ _ a.1).1 in
      let f = then_accept _ _ d.1 in
      let ix = index_back c ok.0 (eqb-true _ _ (check_accept _ _ _ a.0)) d.0 in
      let st : All (λ e. is_start e.start (base (length (entries_of c))) cs ≡ true) (entries_of c) =
      rw (← ix.1) (starts_ok R (12 + size c) cs [] 24 (entries_of c) f.0) in (
        rw (length-map, entry_of-ref_of (base (length (entries_of c))) cs (entries_of c) st) (ap (λ (x : Chunk). x ∷ cs) ix.0),
        record {
          refs_ok = refs_ok (base (length (entries_of c))) cs (entries_of c) (entries-read (rd32 c.body) (drop 4 c.body)
              (all_drop Byte 4 c.body ok.0.body_bytes)) st;
          chunks_ok = all_imp ReadOk ChunkOk (λ x r. record { type_fits = r.type_small }) cs ok.1;
        },
      )

  pub accept_back : (f : List ℕ) → All Byte f → verdict R f ≡ accept → (file (model f) ≡ f) × Sound (model f) × (length f ≤ 16777216)
  unfolding verdict head_fault file model chunks_of
  accept_back f bytes h =
      let lw : length (drop 12 f) ≤ length f = simp length-drop (omega arith) in
      let p = then_accept _ _ h in
      let a1 = then_accept _ _ p.0 in
      let a2 = then_accept _ _ a1.1 in
      let a3 = then_accept _ _ a2.1 in
      let a4 = then_accept _ _ a3.1 in
      let a6 = then_accept _ _ p.1 in
      let long : 12 ≤ length f = leb-true 12 (length f) (check_accept _ _ _ a2.0) in
      let w = walk-back (length f) 12 (drop 12 f) (all_drop Byte 12 f bytes) lw a6.0 in
      let l = layout-back (chunks_of f) w.1 a6.1 in (
        ap file_bytes l.0 ∙ header_back f (chunks_of f) bytes long (eqb-true _ _ (check_accept _ _ _ a3.0)) (eqb-true _ _ (check_accept _ _ _ a4.0))
            (eqb-true _ _ (check_accept _ _ _ a4.1)) w.0,
        l.1,
        leb-true _ _ (check_accept _ _ _ a1.0),
      )

  pub accept_short : (f : List ℕ) → verdict R f ≡ accept → length f ≤ 16777216
  unfolding verdict head_fault
  accept_short f h = leb-true _ _ (check_accept _ _ _ (then_accept _ _ (then_accept _ _ h).0).0)

-- A model's file as its parts, for the code: header, count, entries, chunks; and where the parts of an old file stand.
use mathlib.Core.Path.{◌≡◌, refl, sym, ap, ◌∙◌}
use Prim.Native.Nat.{ℕ, zero, suc, ◌+◌, ◌*◌, ◌<◌, ◌%◌}
use mathlib.Core.List.{List, [], ◌∷◌, ◌++◌, map, append_assoc, append-nil}
use native.Mathlib.Omega.{arith}
use native.Mathlib.Nat.{le_of_suc-le-suc, not-suc-le-zero}
use lib.ListN.{length, get_or, take, drop, set, replicate, length-append, length-map}
use lib.Seq.{drop_at, drop-drop, split_at}
use Rattle.blorb.specs.Bytes.{be32, rd32}
use Rattle.blorb.proofs.ByteLaws.{length-be32}
use Rattle.blorb.specs.Format.{Ref, Chunk, Entry, chunk_of, size, sized, total, chunk_bytes, chunks_bytes, file_bytes, entries_bytes, index_chunk, entry_from}
use Rattle.blorb.specs.Layout.{heading}
use Rattle.blorb.specs.Verdict.{no_chunk}
use Rattle.blorb.specs.Model.{Model, base, entry_of, file}
use Rattle.blorb.specs.Queries.{no_ref, ref_at, start}
use Rattle.blorb.specs.Sound.{W, Sound}
use Rattle.blorb.proofs.Codec.{length-entries_bytes, entry_in}
use Rattle.blorb.proofs.ModelLaws.{entries, size-index, entries_ok, length-file}

no_pad : (n : ℕ) → replicate {A = ℕ} ((4 + 12 * n) % 2) 0 ≡ []
no_pad n = rw e
  where
    e : (4 + 12 * n) % 2 ≡ 0
    e = omega arith

pub file_parts : (m : Model) → file m ≡ heading (length m.refs) (total m.chunks) ++ (entries_bytes (entries m) ++ chunks_bytes m.chunks)
unfolding file file_bytes chunks_bytes chunk_bytes index_chunk heading total
file_parts m =
    let n : ℕ = length m.refs in
    let l : length (be32 (length (entries m)) ++ entries_bytes (entries m)) ≡ 4 + 12 * n = simp (length-append, length-be32, length-entries_bytes, length-map) in
    let t : 4 + (size (index_chunk (entries m)) + total m.chunks) ≡ 16 + 12 * n + total m.chunks = rw size-index (simp length-map (omega arith)) in
    rw (l, t, no_pad n, append-nil (be32 (length (entries m)) ++ entries_bytes (entries m)), length-map) (simp append_assoc)

pub file-length : (m : Model) → length (file m) ≡ 24 + 12 * length m.refs + total m.chunks
unfolding base
file-length m = length-file m

pub size_of : (t : ℕ) (d : List ℕ) → size (chunk_of t d) ≡ 8 + length d + length d % 2
unfolding size sized
size_of t d = omega arith

pub length-heading : (n t : ℕ) → length (heading n t) ≡ 24
unfolding heading
length-heading n t = simp (length-append, length-be32)

pub chunks-append : (a b : List Chunk) → chunks_bytes (a ++ b) ≡ chunks_bytes a ++ chunks_bytes b
unfolding chunks_bytes
chunks-append [] b = refl
chunks-append (c ∷ a) b = rw (chunks-append a b) (sym (append_assoc (chunk_bytes c) (chunks_bytes a) (chunks_bytes b)))

pub chunks-cons : (c : Chunk) (cs : List Chunk) → chunks_bytes (c ∷ cs) ≡ chunk_bytes c ++ chunks_bytes cs
unfolding chunks_bytes
chunks-cons c cs = refl

-- chunks around one of them
pub chunks_around : (cs : List Chunk) (k : ℕ) → k < length cs → chunks_bytes cs ≡ chunks_bytes (take k cs) ++ (chunk_bytes (get_or cs k no_chunk) ++ chunks_bytes
    (drop (suc k) cs))
chunks_around cs k h =
    ap chunks_bytes (split_at cs k no_chunk h) ∙ chunks-append (take k cs) (get_or cs k no_chunk ∷ drop (suc k) cs)
    ∙ ap (λ (z : List ℕ). chunks_bytes (take k cs) ++ z) (chunks-cons (get_or cs k no_chunk) (drop (suc k) cs))

pub chunks-set : (cs : List Chunk) (k : ℕ) (c : Chunk) → k < length cs → chunks_bytes (set cs k c) ≡ chunks_bytes (take k cs)
    ++ (chunk_bytes c ++ chunks_bytes (drop (suc k) cs))
unfolding chunks_bytes
chunks-set [] k c h = absurd (not-suc-le-zero h)
chunks-set (x ∷ cs) zero c h = refl
chunks-set (x ∷ cs) (suc k) c h = rw (chunks-set cs k c (le_of_suc-le-suc h)) (sym (append_assoc (chunk_bytes x) (chunks_bytes (take k cs)) _))

entry_of_lem : (at : ℕ) (cs : List Chunk) (rs : List Ref) (i : ℕ) → get_or (map (entry_of at cs) rs) i (entry_of at cs no_ref) ≡ entry_of at cs (get_or rs i no_ref)
entry_of_lem at cs [] i = refl
entry_of_lem at cs (r ∷ rs) zero = refl
entry_of_lem at cs (r ∷ rs) (suc i) = entry_of_lem at cs rs i

-- entry i of the index in the file's bytes
pub index-entry : (m : Model) (i : ℕ) → Sound m → length (file m) < W → i < length m.refs
    → entry_from (drop (24 + 12 * i) (file m)) ≡ entry_of (base (length m.refs)) m.chunks (ref_at m i)
index-entry m i s small h =
    let F : List ℕ = heading (length m.refs) (total m.chunks) in
    let X : List ℕ = entries_bytes (entries m) ++ chunks_bytes m.chunks in
    let at : ℕ = base (length m.refs) in
    let d : drop (24 + 12 * i) (file m) ≡ drop (12 * i) X
    = ap (drop (24 + 12 * i)) (file_parts m) ∙ sym (drop-drop (12 * i) 24 (F ++ X))
    ∙ ap (drop (12 * i)) (drop_at F X 24 (length-heading (length m.refs) (total m.chunks))) in
    ap entry_from d ∙ entry_in (entries m) i (entry_of at m.chunks no_ref) (chunks_bytes m.chunks) (entries_ok m s small) (simp length-map h)
    ∙ entry_of_lem at m.chunks m.refs i

-- the start that stands in it
pub start_in_lem : (m : Model) (i : ℕ) → Sound m → length (file m) < W → i < length m.refs → rd32 (drop (32 + 12 * i) (file m)) ≡ start m (ref_at m i).chunk
unfolding start entry_from entry_of
start_in_lem m i s small h =
    let k : 32 + 12 * i ≡ 24 + 12 * i + 8 = omega arith in
    rw (k, ← drop-drop 8 (24 + 12 * i) (file m)) (ap (λ (y : Entry). y.start) (index-entry m i s small h))

-- A sound model whose file is small is the model of its file.
use mathlib.Core.Path.{◌≡◌, refl}
use Prim.Native.Nat.{ℕ, zero, suc, ◌+◌, ◌*◌, ◌≤◌, ◌<◌}
use mathlib.Core.List.{List, [], ◌∷◌, map}
use native.Mathlib.Omega.{arith}
use native.Mathlib.Nat.{le_of_suc-le-suc, not-suc-le-zero, le_of_lt}
use lib.ListN.{length, get_or, take, length-append, length-map}
use Rattle.blorb.proofs.ByteLaws.{length-be32}
use Rattle.blorb.specs.Format.{Ref, ref_of, Chunk, Entry, size, sized, total, chunks_of, index_chunk}
use Rattle.blorb.specs.Model.{Model, base, start_of, entry_of, file, model, model_of_chunks}
use Rattle.blorb.specs.All.{All}
use Rattle.blorb.proofs.AllLaws.{all_map, all_get_d}
use Rattle.blorb.specs.Sound.{W, RefOk, Sound}
use Rattle.blorb.specs.Queries.{no_ref, ref_at}
use Rattle.blorb.proofs.Places.{place_of-start_of}
use Rattle.blorb.proofs.Codec.{EntryOk, length-file_bytes, length-entries_bytes, chunks_of-file_bytes, entries_of-index_chunk}

pub size-index : (es : List Entry) → size (index_chunk es) ≡ 12 + 12 * length es
unfolding size sized index_chunk
size-index es = simp (length-append, length-be32, length-entries_bytes) (omega arith)

pub total-take : (k : ℕ) (cs : List Chunk) → total (take k cs) ≤ total cs
unfolding total
total-take zero cs = omega arith
total-take (suc k) [] = omega arith
total-take (suc k) (c ∷ cs) = omega (arith, total-take k cs)

pub size-get_or : (cs : List Chunk) (k : ℕ) (d : Chunk) → k < length cs → size (get_or cs k d) ≤ total cs
unfolding total
size-get_or [] k d h = absurd (not-suc-le-zero h)
size-get_or (c ∷ cs) zero d h = omega arith
size-get_or (c ∷ cs) (suc k) d h = omega (arith, size-get_or cs k d (le_of_suc-le-suc h))

abbrev pub entries : Model → List Entry
entries m = map (entry_of (base (length m.refs)) m.chunks) m.refs

-- a file's length
pub length-file : (m : Model) → length (file m) ≡ base (length m.refs) + total m.chunks
unfolding file base total
length-file m = simp (length-file_bytes, size-index, length-map) (omega arith)

pub ref_of_entry_of1 : (at : ℕ) (cs : List Chunk) (r : Ref) → RefOk (length cs) r → ref_of at cs (entry_of at cs r) ≡ r
unfolding ref_of entry_of
ref_of_entry_of1 at cs r ok = λ i. record { usage = r.usage; number = r.number; chunk = place_of-start_of at cs r.chunk (le_of_lt ok.chunk_there) i }

pub ref_of-entry_of : (at : ℕ) (cs : List Chunk) (rs : List Ref) → All (RefOk (length cs)) rs → map (ref_of at cs) (map (entry_of at cs) rs) ≡ rs
unfolding ref_of entry_of
ref_of-entry_of at cs [] ok = refl
ref_of-entry_of at cs (r ∷ rs) ok =
    λ i. ref_of_entry_of1 at cs r ok.0 i ∷ ref_of-entry_of at cs rs ok.1 i

module _ (m : Model) (s : Sound m) (small : length (file m) < W) where
  pub entries_ok : All EntryOk (entries m)
  unfolding entry_of start_of
  entries_ok = all_map (RefOk (length m.chunks)) EntryOk (entry_of (base (length m.refs)) m.chunks)
      (λ r ok. record {
        usage_fits = ok.usage_fits;
        number_fits = ok.number_fits;
        start_fits =
            omega (arith, total-take r.chunk m.chunks, length-file m);
      })
      m.refs s.refs_ok

  pub few : length (entries m) < W
  unfolding base
  few = simp length-map (omega (arith, length-file m))

  pub chunks_of_lem : chunks_of (file m) ≡ index_chunk (entries m) ∷ m.chunks
  unfolding file total base index_chunk
  chunks_of_lem = chunks_of-file_bytes (index_chunk (entries m) ∷ m.chunks) (record { type_fits = omega arith }, s.chunks_ok)
      (omega (arith, length-file_bytes (index_chunk (entries m) ∷ m.chunks)))

  pub model-file : model (file m) ≡ m
  unfolding model model_of_chunks
  model-file =
      rw (chunks_of_lem, entries_of-index_chunk (entries m) entries_ok few, length-map)
      λ i. record { refs = ref_of-entry_of (base (length m.refs)) m.chunks m.refs s.refs_ok i; chunks = m.chunks }

-- an entry's chunk is there
pub chunk_in : (m : Model) (i : ℕ) → Sound m → i < length m.refs → (ref_at m i).chunk < length m.chunks
chunk_in m i s h = (all_get_d (RefOk (length m.chunks)) m.refs i no_ref s.refs_ok h).chunk_there

-- The chunk at a start: its type, its length and its data in the file's bytes.
use mathlib.Core.Path.{◌≡◌, sym, ap, ◌∙◌}
use Prim.Native.Nat.{ℕ, suc, ◌+◌, ◌*◌, ◌-◌, ◌≤◌, ◌<◌}
use mathlib.Core.List.{List, ◌++◌, append_assoc}
use native.Mathlib.Omega.{arith}
use lib.ListN.{length, take, drop, length-append, length-drop, length-map}
use lib.Seq.{drop_at, drop-drop}
use Rattle.blorb.specs.Bytes.{rd32}
use Rattle.blorb.specs.Format.{Chunk, size, chunk_in, entries_bytes, chunk_bytes, chunks_bytes, total}
use Rattle.blorb.specs.Layout.{heading}
use Rattle.blorb.specs.Verdict.{no_chunk}
use Rattle.blorb.specs.Model.{Model, base, start_of, file}
use Rattle.blorb.specs.Queries.{chunk_at, start}
use Rattle.blorb.proofs.AllLaws.{all_get_d}
use Rattle.blorb.specs.Sound.{W, ChunkOk, Sound}
use Rattle.blorb.proofs.Places.{size_pos, body-size}
use Rattle.blorb.proofs.Codec.{length-entries_bytes, length-chunk_bytes, length-chunks_bytes, first_type, first-length, first_body}
use Rattle.blorb.proofs.ModelLaws.{entries, size-get_or}
use Rattle.blorb.proofs.Parts.{file_parts, length-heading}
use Rattle.blorb.proofs.Parts.{file-length}
use Rattle.blorb.proofs.Parts.{chunks_around}
use Rattle.edits.proofs.FitFacts.{size_is}

module _ (m : Model) (k : ℕ) (s : Sound m) (there : k < length m.chunks) (small : length (file m) < W) where
  abbrev c : Chunk
  c = chunk_at m k

  abbrev rest : List ℕ
  rest = chunks_bytes (drop (suc k) m.chunks)

  -- the file from the chunk's start on
  pub drop-start : drop (start m k) (file m) ≡ chunk_bytes c ++ rest
  unfolding start start_of base
  drop-start =
      let F : List ℕ = heading (length m.refs) (total m.chunks) in
      let E : List ℕ = entries_bytes (entries m) in
      let c1 : List ℕ = chunks_bytes (take k m.chunks) in
      let lE : length E ≡ 12 * length m.refs = length-entries_bytes (entries m) ∙ ap (λ (z : ℕ). 12 * z) (length-map m.refs _) in
      let lF : length F ≡ 24 = length-heading (length m.refs) (total m.chunks) in
      let l1 : length c1 ≡ total (take k m.chunks) = length-chunks_bytes (take k m.chunks) in
      let lp : length (F ++ (E ++ c1)) ≡ 24 + 12 * length m.refs + total (take k m.chunks) = length-append F (E ++ c1) ∙ ap (λ (z : ℕ). length F + z)
      (length-append E c1) ∙ omega arith in
      let e : file m ≡ (F ++ (E ++ c1)) ++ (chunk_bytes c ++ rest)
      = file_parts m ∙ ap (λ (z : List ℕ). F ++ (E ++ z)) (chunks_around m.chunks k there) ∙ simp append_assoc in
      ap (drop (24 + 12 * length m.refs + total (take k m.chunks))) e ∙ drop_at (F ++ (E ++ c1)) (chunk_bytes c ++ rest)
      (24 + 12 * length m.refs + total (take k m.chunks)) lp

  body_small : length c.body < W
  body_small = omega (arith, body-size c, size-get_or m.chunks k no_chunk there, file-length m)

  pub type_at : rd32 (drop (start m k) (file m)) ≡ c.type
  type_at = ap rd32 drop-start ∙ first_type c rest (all_get_d ChunkOk m.chunks k no_chunk s.chunks_ok there).type_fits

  pub length_at : rd32 (drop (start m k + 4) (file m)) ≡ length c.body
  length_at = ap rd32 (sym (drop-drop 4 (start m k) (file m)) ∙ ap (drop 4) drop-start) ∙ first-length c rest body_small

  pub body_at : take (length c.body) (drop (start m k + 8) (file m)) ≡ c.body
  body_at = ap (take (length c.body)) (sym (drop-drop 8 (start m k) (file m)) ∙ ap (drop 8) drop-start) ∙ first_body c rest

  pub chunk_in_place : chunk_in (drop (start m k) (file m)) ≡ chunk_at m k
  unfolding chunk_in
  chunk_in_place =
      let x : ℕ = start m k in
      let n : rd32 (drop 4 (drop x (file m))) ≡ length c.body = ap rd32 (drop-drop 4 x (file m)) ∙ length_at in
      (λ i. record { type = type_at i; body = ((λ z. take (n z) (drop-drop 8 x (file m) z)) ∙ body_at) i })

  -- it lies in the file
  pub chunk_inside : start m k + (8 + rd32 (drop (start m k + 4) (file m))) ≤ length (file m)
  chunk_inside =
      let e : length (file m) - start m k ≡ size c + length rest
      = sym (length-drop (start m k) (file m)) ∙ ap length drop-start ∙ length-append (chunk_bytes c) rest ∙ ap (λ (z : ℕ). z + length rest)
      (length-chunk_bytes c) in
      omega (arith, e, size_pos c, size_is c, length_at)

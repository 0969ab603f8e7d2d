-- The bytes of a removal, with the chunk or without.
use mathlib.Core.Path.{◌≡◌, refl, sym, ap, ◌∙◌}
use Prim.Native.Nat.{ℕ, suc, ◌+◌, ◌*◌, ◌-◌, ◌≤◌, ◌<◌}
use mathlib.Core.List.{List, [], ◌∷◌, ◌++◌, map, append_assoc}
use mathlib.Core.Bool.{Bool, true, false, cond}
use native.Mathlib.Omega.{arith}
use native.Mathlib.Nat.{add-zero}
use lib.ListN.{length, get_or, take, drop, replicate, length-append, length-map, length-drop, length-replicate, take-append-drop}
use lib.Seq.{length-take-le, split_at}
use lib.Dec.{ltb}
use Rattle.blorb.specs.Format.{Entry, size, entry_bytes, entries_bytes, chunk_bytes, chunks_bytes, total}
use Rattle.blorb.specs.Layout.{heading}
use Rattle.blorb.specs.Model.{Model, base, start_of, file, model}
use Rattle.blorb.specs.Queries.{ref_at, chunk_at, shared, without, start}
use Rattle.edits.specs.Edit.{removed, removed_both, removed_entry}
use Rattle.blorb.specs.All.{All}
use Rattle.blorb.specs.Sound.{W, Sound}
use Rattle.blorb.proofs.Codec.{EntryOk, length-entries_bytes, length-chunks_bytes, length-chunk_bytes}
use Rattle.blorb.proofs.ModelLaws.{entries, entries_ok, chunk_in}
use Rattle.edits.proofs.UndoLaws.{length_without, length_remaining}
use Rattle.edits.specs.Starts.{moved, fallen}
use Rattle.edits.specs.GoneSize.{gone_size_of}
use Rattle.edits.proofs.Starts.{starts_removed, starts_unlisted, map-without}
use Rattle.blorb.proofs.Parts.{file_parts, file-length, length-heading, chunks-append, chunks_around}
use Rattle.edits.proofs.Lengths.{total-less}
use Rattle.edits.specs.Run.{noted, written}
use Rattle.edits.proofs.Noted.{noted-over}
use Rattle.moves.specs.Moves.{starts_moved, relocated}
use Rattle.moves.specs.declared.Move.{Move}
use Rattle.moves.specs.Shift.{slid}
use Rattle.rewrite.specs.Rewriting.{Stands}
use Rattle.rewrite.proofs.Writes.{entries-append, entries-cons, length-entry, left_behind, slid_left, starts_moved_lem, written-shorter, stands_length}

pub relocated-fallen : (m : Move) (s a : ℕ) → m.limit ≡ s → m.behind.up ≡ 0 → m.behind.down ≡ 12 + a → m.others.up ≡ 0 → m.others.down ≡ 12
    → relocated m ≡ fallen s a
unfolding relocated
relocated-fallen m s a p q r t w = λ i x. all x i
  where
    all : (x : ℕ) → cond (ltb m.limit x) (x + m.behind.up - m.behind.down) (x + m.others.up - m.others.down) ≡ fallen s a x
    all x = rw (p, q, r, t, w, add-zero x)

without_is : {A : Type 0} (i : ℕ) (l : List A) → take i l ++ drop (suc i) l ≡ without i l
unfolding without
without_is i l = refl

no_entry : Entry
no_entry = record { usage = 0; number = 0; start = 0 }

-- a list of entries around one of them
entries_around : (es : List Entry) (i : ℕ) → i < length es
    → entries_bytes es ≡ entries_bytes (take i es) ++ (entry_bytes (get_or es i no_entry) ++ entries_bytes
    (drop (suc i) es))
entries_around es i h =
    ap entries_bytes (split_at es i no_entry h) ∙ entries-append (take i es) (get_or es i no_entry ∷ drop (suc i) es)
    ∙ ap (λ (z : List ℕ). entries_bytes (take i es) ++ z) (entries-cons (get_or es i no_entry) (drop (suc i) es))

five : (a b c d e : List ℕ) → a ++ (b ++ (c ++ (d ++ e))) ≡ (a ++ (b ++ (c ++ d))) ++ e
five a b c d e = simp append_assoc

ends : (p c st sz l : ℕ) → p ≡ st - 12 → c ≡ l - (st + sz) → 12 ≤ st → st + sz ≤ l → p + c ≡ l - (12 + sz)
ends p c st sz l ep ec low high = omega arith

all_parts : (a b c d n sz l : ℕ) → a + b + 12 ≡ 12 * n → 24 + (12 * n + (c + (sz + d))) ≡ l → 24 + (a + b + (c + d)) + (12 + sz) ≡ l
all_parts a b c d n sz l e h = omega arith

-- the leaves, one after another, on any split of the chunks
module _ (b : List ℕ) (L : ℕ) (m : Model) (i st sz t' : ℕ) (c1 cx c2 : List ℕ) (f : ℕ → ℕ)
    (inside : L ≤ length b) (whole : take L b ≡ file m) (ok : All EntryOk (entries m)) (small : L < W)
    (hi : i < length m.refs) (split : chunks_bytes m.chunks ≡ c1 ++ (cx ++ c2)) (est : st ≡ 24 + 12 * length m.refs + length c1)
    (esz : length cx ≡ sz) where
  abbrev n : ℕ
  n = length m.refs

  abbrev es : List Entry
  es = entries m

  abbrev es' : List Entry
  es' = map (moved f) (entries m)

  abbrev F : List ℕ
  F = heading (length m.refs) (total m.chunks)

  pub remove_leaves : noted (noted (slid (slid (starts_moved f n 24 b) (36 + 12 * i - 12) (36 + 12 * i) (st - (36 + 12 * i))) (st + sz - (12 + sz)) (st + sz)
      (L - (st + sz)))
      (L - (12 + sz)) (replicate (12 + sz) 0)) 0 (heading (n - 1) t')
      ≡ written b L (heading (n - 1) t' ++ (entries_bytes (map (moved f) (without i es)) ++ (c1 ++ c2)))
  remove_leaves =
      let t : List ℕ = drop L b in
      let E : List ℕ = entries_bytes es in
      let E' : List ℕ = entries_bytes es' in
      let ln : length es ≡ n = length-map m.refs _ in
      let ln' : length es' ≡ n = length-map es _ ∙ ln in
      let lE : length E ≡ 12 * n = length-entries_bytes es ∙ ap (λ (z : ℕ). 12 * z) ln in
      let lF : length F ≡ 24 = length-heading n (total m.chunks) in
      let lL : length (take L b) ≡ L = length-take-le L b inside in
      let cont : take L b ≡ F ++ (E ++ (c1 ++ (cx ++ c2))) = whole ∙ file_parts m ∙ ap (λ (z : List ℕ). F ++ (E ++ z)) split in
      let lt : 24 + (12 * n + (length c1 + (sz + length c2))) ≡ L = sym (simp length-append (omega arith)) ∙ ap length (sym cont) ∙ lL in
      let low : 12 ≤ st = omega arith in
      let high : st + sz ≤ L = omega arith in
      let w0 : b ≡ F ++ (E ++ (c1 ++ (cx ++ (c2 ++ t)))) = sym (take-append-drop L b) ∙ ap (λ (z : List ℕ). z ++ t) cont ∙ simp append_assoc in
      let A : List ℕ = entries_bytes (take i es') in
      let x : List ℕ = entry_bytes (get_or es' i no_entry) in
      let B : List ℕ = entries_bytes (drop (suc i) es') in
      let lx : length x ≡ 12 = length-entry (get_or es' i no_entry) in
      let l_a : length A ≡ 12 * i = length-entries_bytes (take i es') ∙ ap (λ (z : ℕ). 12 * z) (length-take-le i es' (omega arith)) in
      let l_b : length B ≡ 12 * (n - suc i) = length-entries_bytes (drop (suc i) es') ∙ ap (λ (z : ℕ). 12 * z) (length-drop (suc i) es'
      ∙ ap (λ (z : ℕ). z - suc i) ln') in
      let lAB : length A + length B + 12 ≡ 12 * n = omega arith in
      let P : List ℕ = F ++ A in
      let S : List ℕ = B ++ c1 in
      let lP : length P ≡ 24 + 12 * i = length-append F A ∙ omega arith in
      let lS : length S ≡ st - (36 + 12 * i) = length-append B c1 ∙ omega arith in
      let w1 : starts_moved f n 24 b ≡ P ++ (x ++ (S ++ (cx ++ (c2 ++ t))))
      = (λ z. starts_moved f (sym ln z) 24 (w0 z)) ∙ starts_moved_lem f F es (c1 ++ (cx ++ (c2 ++ t))) 24 lF ok
      ∙ ap (λ (z : List ℕ). F ++ (z ++ (c1 ++ (cx ++ (c2 ++ t))))) (entries_around es' i (omega arith)) ∙ simp append_assoc in
      let d1 : 36 + 12 * i - 12 ≡ 24 + 12 * i = omega arith in
      let s1 : 36 + 12 * i ≡ 24 + 12 * i + 12 = omega arith in
      let g : List ℕ = drop (st - (36 + 12 * i)) (x ++ S) in
      let lg : length g ≡ 12 = left_behind x S 12 (st - (36 + 12 * i)) lx lS in
      let w2 : slid (P ++ (x ++ (S ++ (cx ++ (c2 ++ t))))) (36 + 12 * i - 12) (36 + 12 * i) (st - (36 + 12 * i)) ≡ (P ++ S) ++ ((g ++ cx) ++ (c2 ++ t))
      = (λ z. slid (P ++ (x ++ (S ++ (cx ++ (c2 ++ t))))) (d1 z) (s1 z) (st - (36 + 12 * i)))
      ∙ slid_left P x S (cx ++ (c2 ++ t)) (24 + 12 * i) 12 (st - (36 + 12 * i)) lP lx lS
      ∙ ap (λ (z : List ℕ). (P ++ S) ++ z) (sym (append_assoc g cx (c2 ++ t))) in
      let d2 : st + sz - (12 + sz) ≡ st - 12 = omega arith in
      let s2 : st + sz ≡ st - 12 + (12 + sz) = omega arith in
      let lPS : length (P ++ S) ≡ st - 12 = length-append P S ∙ omega arith in
      let lgc : length (g ++ cx) ≡ 12 + sz = length-append g cx ∙ omega arith in
      let lc2 : length c2 ≡ L - (st + sz) = omega arith in
      let g2 : List ℕ = drop (L - (st + sz)) ((g ++ cx) ++ c2) in
      let lg2 : length g2 ≡ 12 + sz = left_behind (g ++ cx) c2 (12 + sz) (L - (st + sz)) lgc lc2 in
      let w3 : slid ((P ++ S) ++ ((g ++ cx) ++ (c2 ++ t))) (st + sz - (12 + sz)) (st + sz) (L - (st + sz)) ≡ ((P ++ S) ++ c2) ++ (g2 ++ t)
      = (λ z. slid ((P ++ S) ++ ((g ++ cx) ++ (c2 ++ t))) (d2 z) (s2 z) (L - (st + sz)))
      ∙ slid_left (P ++ S) (g ++ cx) c2 t (st - 12) (12 + sz) (L - (st + sz)) lPS lgc lc2 in
      let zs : List ℕ = replicate (12 + sz) 0 in
      let lz : length zs ≡ 12 + sz = length-replicate {A = ℕ} (12 + sz) 0 in
      let lQ : length ((P ++ S) ++ c2) ≡ L - (12 + sz) = length-append (P ++ S) c2 ∙ ends (length (P ++ S)) (length c2) st sz L lPS lc2 low high in
      let w4 : noted (((P ++ S) ++ c2) ++ (g2 ++ t)) (L - (12 + sz)) zs ≡ F ++ ((A ++ B) ++ (c1 ++ (c2 ++ (zs ++ t))))
      = noted-over ((P ++ S) ++ c2) g2 t zs (L - (12 + sz)) lQ (lg2 ∙ sym lz) ∙ simp append_assoc in
      let F' : List ℕ = heading (n - 1) t' in
      let lF' : length F' ≡ 24 = length-heading (n - 1) t' in
      let AB : A ++ B ≡ entries_bytes (map (moved f) (without i es))
      = sym (entries-append (take i es') (drop (suc i) es')) ∙ ap entries_bytes (without_is i es') ∙ ap entries_bytes (sym (map-without (moved f) i es)) in
      let lf : length (F' ++ ((A ++ B) ++ (c1 ++ c2))) + (12 + sz) ≡ L
      = simp length-append (ap (λ (z : ℕ). z + (length A + length B + (length c1 + length c2)) + (12 + sz)) lF' ∙ all_parts (length A) (length B) (length c1)
      (length c2) n sz L lAB lt) in
      ap (λ (z : List ℕ). noted (noted (slid (slid z (36 + 12 * i - 12) (36 + 12 * i) (st - (36 + 12 * i))) (st + sz - (12 + sz)) (st + sz) (L - (st + sz)))
      (L - (12 + sz)) zs) 0 F') w1
      ∙ ap (λ (z : List ℕ). noted (noted (slid z (st + sz - (12 + sz)) (st + sz) (L - (st + sz))) (L - (12 + sz)) zs) 0 F') w2
      ∙ ap (λ (z : List ℕ). noted (noted z (L - (12 + sz)) zs) 0 F') w3
      ∙ ap (λ (z : List ℕ). noted z 0 F') w4
      ∙ noted-over [] F ((A ++ B) ++ (c1 ++ (c2 ++ (zs ++ t)))) F' 0 refl (lF ∙ sym lF')
      ∙ five F' (A ++ B) c1 c2 (zs ++ t)
      ∙ sym (written-shorter b L (12 + sz) (F' ++ ((A ++ B) ++ (c1 ++ c2))) lf)
      ∙ ap (λ (z : List ℕ). written b L (F' ++ (z ++ (c1 ++ c2)))) AB

-- a fall by 12 and the size of no chunk
fall_none : (s : ℕ) (es : List Entry) → map (moved (λ t. t - 12)) es ≡ map (moved (fallen s 0)) es
fall_none s [] = refl
fall_none s (e ∷ es) = λ i. record { usage = e.usage; number = e.number; start = same (ltb s e.start) e.start i } ∷ fall_none s es i
  where
    same : (x : Bool) (t : ℕ) → t - 12 ≡ cond x (t - (12 + 0)) (t - 12)
    same true t = omega arith
    same false t = refl

-- the file after a removal, in parts
module _ (m : Model) (i : ℕ) (s : Sound m) (h : i < length m.refs) where
  abbrev k : ℕ
  k = (ref_at m i).chunk

  there : (ref_at m i).chunk < length m.chunks
  there = chunk_in m i s h

  both-file : shared m i ≡ false → file (removed_both m i k) ≡ heading (length m.refs - 1) (total m.chunks - size (chunk_at m k))
      ++ (entries_bytes (map (moved (fallen (start m k) (size (chunk_at m k)))) (without i (entries m))) ++ (chunks_bytes (take k m.chunks) ++ chunks_bytes
      (drop (suc k) m.chunks)))
  both-file alone =
      let n1 : length (removed_both m i k).refs ≡ length m.refs - 1 = omega (arith, length_remaining m i k h) in
      let t1 : total (removed_both m i k).chunks ≡ total m.chunks - size (chunk_at m k) =
      (unfold removed_both in omega (arith, total-less m.chunks k there)) in
      let c1 : chunks_bytes (removed_both m i k).chunks ≡ chunks_bytes (take k m.chunks) ++ chunks_bytes (drop (suc k) m.chunks)
      = (unfold removed_both without in chunks-append (take k m.chunks) (drop (suc k) m.chunks)) in
      file_parts (removed_both m i k) ∙ (λ z. heading (n1 z) (t1 z) ++ (entries_bytes (starts_removed m i h there alone z) ++ c1 z))

  entry-file : file (removed_entry m i) ≡ heading (length m.refs - 1) (total m.chunks - 0)
      ++ (entries_bytes (map (moved (fallen (start m k) 0)) (without i (entries m))) ++ (chunks_bytes (take k m.chunks) ++ chunks_bytes (drop k m.chunks)))
  entry-file =
      let n1 : length (removed_entry m i).refs ≡ length m.refs - 1 = (unfold removed_entry in omega (arith, length_without i m.refs h)) in
      let t1 : total (removed_entry m i).chunks ≡ total m.chunks - 0 = (unfold removed_entry in omega arith) in
      let c1 : chunks_bytes (removed_entry m i).chunks ≡ chunks_bytes (take k m.chunks) ++ chunks_bytes (drop k m.chunks)
      = (unfold removed_entry in ap chunks_bytes (sym (take-append-drop k m.chunks)) ∙ chunks-append (take k m.chunks) (drop k m.chunks)) in
      file_parts (removed_entry m i) ∙ (λ z. heading (n1 z) (t1 z)
      ++ (entries_bytes ((starts_unlisted m i h ∙ fall_none (start m k) (without i (entries m))) z) ++ c1 z))

  start_is : start m k ≡ 24 + 12 * length m.refs + length (chunks_bytes (take k m.chunks))
  unfolding start start_of base
  start_is = ap (λ (z : ℕ). 24 + 12 * length m.refs + z) (sym (length-chunks_bytes (take k m.chunks)))

-- from a file in a buffer, as the code has it
pub remove-written : (b : List ℕ) (l k i st sz : ℕ) → Stands b l k → i < k → st ≡ start (model (take l b)) (ref_at (model (take l b)) i).chunk
    → sz ≡ gone_size_of (model (take l b)) i
    → noted (noted (slid (slid (starts_moved (fallen st sz) k 24 b) (36 + 12 * i - 12) (36 + 12 * i) (st - (36 + 12 * i))) (st + sz - (12 + sz)) (st + sz)
    (l - (st + sz))) (l - (12 + sz)) (replicate (12 + sz) 0)) 0
    (heading (k - 1) (l - sz - (24 + 12 * k)))
    ≡ written b l (file (removed (model (take l b)) i))
unfolding gone_size_of removed
remove-written b l k i st sz stands hi est esz = go (shared (model (take l b)) i) refl
  where
    m : Model
    m = model (take l b)

    kc : ℕ
    kc = (ref_at (model (take l b)) i).chunk

    hi' : i < length (model (take l b)).refs
    hi' = omega (arith, stands.entries)

    th : (ref_at (model (take l b)) i).chunk < length (model (take l b)).chunks
    th = there (model (take l b)) i stands.sound hi'

    fin : (sz' : ℕ) (c1 cx c2 : List ℕ) (m' : Model) → sz ≡ sz' → chunks_bytes (model (take l b)).chunks ≡ c1 ++ (cx ++ c2) → length cx ≡ sz'
        → c1 ≡ chunks_bytes (take (ref_at (model (take l b)) i).chunk (model (take l b)).chunks)
        → file m' ≡ heading (length (model (take l b)).refs - 1) (total (model (take l b)).chunks - sz')
        ++ (entries_bytes (map (moved (fallen (start (model (take l b)) (ref_at (model (take l b)) i).chunk) sz')) (without i (entries (model (take l b)))))
        ++ (c1 ++ c2))
        → noted (noted (slid (slid (starts_moved (fallen st sz) k 24 b) (36 + 12 * i - 12) (36 + 12 * i) (st - (36 + 12 * i))) (st + sz - (12 + sz)) (st + sz)
        (l - (st + sz))) (l - (12 + sz)) (replicate (12 + sz) 0)) 0
        (heading (k - 1) (l - sz - (24 + 12 * k))) ≡ written b l (file m')
    fin sz' c1 cx c2 m' es split lcx ec1 X =
        let ek : k ≡ length m.refs = stands.entries in
        let small : length (file m) < W = omega (arith, stands_length b l k stands, stands.short) in
        let tt : l - sz - (24 + 12 * k) ≡ total m.chunks - sz' = omega (arith, file-length m, stands_length b l k stands) in
        let est' : start m kc ≡ 24 + 12 * length m.refs + length c1 = start_is m i stands.sound hi'
        ∙ ap (λ (z : List ℕ). 24 + 12 * length m.refs + length z) (sym ec1) in
        (λ z. noted (noted (slid (slid (starts_moved (fallen (est z) (es z)) (ek z) 24 b) (36 + 12 * i - 12) (36 + 12 * i) (est z - (36 + 12 * i)))
        (est z + es z - (12 + es z)) (est z + es z) (l - (est z + es z)))
        (l - (12 + es z)) (replicate {A = ℕ} (12 + es z) 0)) 0 (heading (ek z - 1) (tt z)))
        ∙ remove_leaves b l m i (start m kc) sz' (total m.chunks - sz') c1 cx c2 (fallen (start m kc) sz') stands.inside (sym stands.whole)
        (entries_ok m stands.sound small) (omega arith) hi' split est' lcx
        ∙ ap (written b l) (sym X)

    go : (x : Bool) → shared (model (take l b)) i ≡ x
        → noted (noted (slid (slid (starts_moved (fallen st sz) k 24 b) (36 + 12 * i - 12) (36 + 12 * i) (st - (36 + 12 * i))) (st + sz - (12 + sz)) (st + sz)
        (l - (st + sz))) (l - (12 + sz)) (replicate (12 + sz) 0)) 0
        (heading (k - 1) (l - sz - (24 + 12 * k)))
        ≡ written b l (file (cond x (removed_entry (model (take l b)) i) (removed_both (model (take l b)) i (ref_at (model (take l b)) i).chunk)))
    go false e =
        fin (size (chunk_at m kc)) (chunks_bytes (take kc m.chunks)) (chunk_bytes (chunk_at m kc)) (chunks_bytes (drop (suc kc) m.chunks)) (removed_both m i kc)
        (esz ∙ ap (λ (x : Bool). cond x 0 (size (chunk_at m kc))) e) (chunks_around m.chunks kc th) (length-chunk_bytes (chunk_at m kc)) refl
        (both-file m i stands.sound hi' e)
    go true e =
        fin 0 (chunks_bytes (take kc m.chunks)) [] (chunks_bytes (drop kc m.chunks)) (removed_entry m i)
        (esz ∙ ap (λ (x : Bool). cond x 0 (size (chunk_at m kc))) e) (ap chunks_bytes (sym (take-append-drop kc m.chunks))
        ∙ chunks-append (take kc m.chunks) (drop kc m.chunks)) refl refl (entry-file m i stands.sound hi')

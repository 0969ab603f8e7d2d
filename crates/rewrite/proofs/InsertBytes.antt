-- The bytes of an entry that goes in, with its chunk or without: what stands behind makes room, and the leaves fill it.
use mathlib.Core.Path.{◌≡◌, refl, sym, ap, ◌∙◌}
use Prim.Native.Nat.{ℕ, suc, ◌+◌, ◌*◌, ◌-◌, ◌≤◌, ◌%◌}
use mathlib.Core.List.{List, [], ◌∷◌, ◌++◌, map, append_assoc}
use mathlib.Core.Bool.{true, cond}
use native.Mathlib.Omega.{arith}
use native.Mathlib.Nat.{sub-zero}
use lib.ListN.{length, take, drop, length-append, length-map, length-drop, take-append-drop}
use lib.Seq.{length-take-le, drop-append-le, drop-drop}
use lib.Dec.{leb}
use Rattle.blorb.specs.Bytes.{be32}
use Rattle.blorb.specs.Format.{Chunk, Entry, size, entry_bytes, entries_bytes, chunk_bytes, chunks_bytes, total, chunk_of}
use Rattle.blorb.specs.Layout.{heading}
use Rattle.blorb.specs.Model.{Model, base, start_of, file, model}
use Rattle.blorb.specs.Queries.{start, place_at}
use Rattle.blorb.specs.All.{All}
use Rattle.blorb.proofs.Codec.{EntryOk, length-entries_bytes, length-chunks_bytes, length-chunk_bytes}
use Rattle.blorb.proofs.ModelLaws.{entries, entries_ok, total-take}
use Rattle.blorb.proofs.Parts.{file_parts, file-length, size_of, length-heading, chunks-append, chunks-cons}
use Rattle.edits.specs.Edit.{with_at, entered, inserted}
use Rattle.edits.specs.Journal.{Rec, old_place, fits3, fits4}
use Rattle.edits.specs.Run.{noted, written}
use Rattle.edits.proofs.Noted.{noted-over}
use Rattle.edits.specs.Starts.{moved}
use Rattle.edits.proofs.InsertStarts.{risen, place_inside, starts_inserted, starts_entered, fit3, fit4}
use Rattle.edits.proofs.InsertJudged.{length-with, total-with}
use Rattle.moves.specs.Shift.{slid}
use Rattle.moves.specs.Moves.{starts_moved, relocated}
use Rattle.moves.specs.declared.Move.{Move}
use Rattle.rewrite.specs.Rewriting.{Stands, Insertable}
use Rattle.rewrite.proofs.Writes.{entries-append, entries-cons, length-entry, entry-bytes, slid_right, starts_moved_lem, written-longer, last_apart}
use Rattle.rewrite.proofs.Writes.{stands_length}

-- starts at or behind s: behind s - 1
pub relocated-risen : (m : Move) (s a : ℕ) → 1 ≤ s → m.limit ≡ s - 1 → m.behind.up ≡ 12 + a → m.behind.down ≡ 0 → m.others.up ≡ 12 → m.others.down ≡ 0
    → relocated m ≡ risen s a
unfolding relocated
relocated-risen m s a h p q r t w = λ i x. all x i
  where
    e : suc (s - 1) ≡ s
    e = omega arith

    all : (x : ℕ) → cond (leb (suc m.limit) x) (x + m.behind.up - m.behind.down) (x + m.others.up - m.others.down) ≡ risen s a x
    all x = rw (p, q, r, t, w, e, sub-zero (x + (12 + a)), sub-zero (x + 12))

-- the leaves, one after another, on any buffer that holds a front, entries and two parts behind them
module _ (F : List ℕ) (es : List Entry) (f : ℕ → ℕ) (i n e : ℕ) (lF : length F ≡ 24) (ln : length es ≡ n) (ok : All EntryOk es) (hi : i ≤ n)
    (ee : e ≡ 24 + 12 * i) where
  abbrev A : List ℕ
  A = entries_bytes (take i (map (moved f) es))

  abbrev B : List ℕ
  B = entries_bytes (drop i (map (moved f) es))

  l_a : length A ≡ 12 * i
  l_a = length-entries_bytes (take i (map (moved f) es))
      ∙ ap (λ (z : ℕ). 12 * z) (length-take-le i (map (moved f) es) (let l : length (map (moved f) es) ≡ length es = length-map es _ in omega arith))

  l_b : length B ≡ 12 * (n - i)
  l_b = length-entries_bytes (drop i (map (moved f) es))
      ∙ ap (λ (z : ℕ). 12 * z) (length-drop i (map (moved f) es) ∙ ap (λ (z : ℕ). z - i) (length-map es _ ∙ ln))

  l_fa : length (F ++ A) ≡ e
  l_fa = length-append F A ∙ omega (arith, l_a)

  -- the starts, with the index cut at the place of the new entry
  moved_cut : (s : List ℕ) → starts_moved f n 24 (F ++ (entries_bytes es ++ s)) ≡ (F ++ A) ++ (B ++ s)
  moved_cut s =
      let cut : entries_bytes (map (moved f) es) ≡ A ++ B
      = ap entries_bytes (sym (take-append-drop i (map (moved f) es))) ∙ entries-append (take i (map (moved f) es)) (drop i (map (moved f) es)) in
      ap (λ (z : ℕ). starts_moved f z 24 (F ++ (entries_bytes es ++ s))) (sym ln) ∙ starts_moved_lem f F es s 24 lF ok
      ∙ ap (λ (z : List ℕ). F ++ (z ++ s)) cut ∙ simp append_assoc

  pub entry_leaves : (s r x F' : List ℕ) (l : ℕ) → length s + (24 + 12 * n) ≡ l → 12 ≤ length r → length x ≡ 12 → length F' ≡ 24
      → noted (noted (slid (starts_moved f n 24 (F ++ (entries_bytes es ++ (s ++ r)))) (e + 12) e (l - e)) e x) 0 F'
      ≡ F' ++ ((A ++ (x ++ B)) ++ (s ++ drop 12 r))
  entry_leaves s r x F' l el hr lx lF' =
      let X : List ℕ = B ++ s in
      let G : List ℕ = take 12 (X ++ r) in
      let lX : length X ≡ l - e = length-append B s ∙ omega (arith, l_b) in
      let lG : length G ≡ 12 = length-take-le 12 (X ++ r) (simp length-append (omega arith)) in
      let w1 : starts_moved f n 24 (F ++ (entries_bytes es ++ (s ++ r))) ≡ (F ++ A) ++ (X ++ r) = moved_cut (s ++ r) ∙ ap (λ (z : List ℕ). (F ++ A) ++ z)
      (sym (append_assoc B s r)) in
      ap (λ (z : List ℕ). noted (noted (slid z (e + 12) e (l - e)) e x) 0 F') w1
      ∙ ap (λ (z : List ℕ). noted (noted z e x) 0 F') (slid_right (F ++ A) X r e 12 (l - e) l_fa lX hr)
      ∙ ap (λ (z : List ℕ). noted z 0 F') (noted-over (F ++ A) G (X ++ drop 12 r) x e l_fa (lG ∙ sym lx) ∙ append_assoc F A (x ++ (X ++ drop 12 r)))
      ∙ noted-over [] F (A ++ (x ++ (X ++ drop 12 r))) F' 0 refl (lF ∙ sym lF') ∙ simp append_assoc

  pub chunk_leaves : (c1 c2 r x y F' : List ℕ) (at sz l : ℕ) → 24 + 12 * n + length c1 ≡ at → at + length c2 ≡ l → 12 + sz ≤ length r → length x ≡ 12
      → length y ≡ sz → length F' ≡ 24
      → noted (noted (noted (slid (slid (starts_moved f n 24 (F ++ (entries_bytes es ++ (c1 ++ (c2 ++ r))))) (at + (12 + sz)) at (l - at)) (e + 12) e (at - e))
      e x) (at + 12) y) 0 F'
      ≡ F' ++ ((A ++ (x ++ B)) ++ ((c1 ++ (y ++ c2)) ++ drop (12 + sz) r))
  chunk_leaves c1 c2 r x y F' at sz l ea el hr lx ly lF' =
      let X : List ℕ = B ++ c1 in
      let H : List ℕ = take (12 + sz) (c2 ++ r) in
      let h : List ℕ = drop 12 H in
      let T : List ℕ = c2 ++ drop (12 + sz) r in
      let G : List ℕ = take 12 (X ++ (H ++ T)) in
      let lX : length X ≡ at - e = length-append B c1 ∙ omega (arith, l_b) in
      let lP : length ((F ++ A) ++ X) ≡ at = length-append (F ++ A) X ∙ omega (arith, l_fa) in
      let lH : length H ≡ 12 + sz = length-take-le (12 + sz) (c2 ++ r) (simp length-append (omega arith)) in
      let lh : length h ≡ sz = length-drop 12 H ∙ omega arith in
      let lHT : length (H ++ T) ≡ length H + length T = length-append H T in
      let lG : length G ≡ 12 = length-take-le 12 (X ++ (H ++ T)) (simp length-append (omega arith)) in
      let w1 : starts_moved f n 24 (F ++ (entries_bytes es ++ (c1 ++ (c2 ++ r)))) ≡ ((F ++ A) ++ X) ++ (c2 ++ r) = moved_cut (c1 ++ (c2 ++ r))
      ∙ simp append_assoc in
      let w2 : slid (((F ++ A) ++ X) ++ (c2 ++ r)) (at + (12 + sz)) at (l - at) ≡ (F ++ A) ++ (X ++ (H ++ T))
      = slid_right ((F ++ A) ++ X) c2 r at (12 + sz) (l - at) lP (omega arith) hr ∙ append_assoc (F ++ A) X (H ++ T) in
      let w3 : slid ((F ++ A) ++ (X ++ (H ++ T))) (e + 12) e (at - e) ≡ (F ++ A) ++ (G ++ (X ++ (h ++ T)))
      = slid_right (F ++ A) X (H ++ T) e 12 (at - e) l_fa lX (omega arith) ∙ ap (λ (z : List ℕ). (F ++ A) ++ (G ++ (X ++ z)))
      (drop-append-le 12 H T (omega arith)) in
      let P : List ℕ = (F ++ A) ++ (x ++ X) in
      let lxX : length (x ++ X) ≡ length x + length X = length-append x X in
      let lPx : length P ≡ at + 12 = length-append (F ++ A) (x ++ X) ∙ omega (arith, l_fa) in
      let w4 : noted ((F ++ A) ++ (G ++ (X ++ (h ++ T)))) e x ≡ P ++ (h ++ T)
      = noted-over (F ++ A) G (X ++ (h ++ T)) x e l_fa (lG ∙ sym lx) ∙ simp append_assoc in
      let w5 : noted (P ++ (h ++ T)) (at + 12) y ≡ F ++ (A ++ (x ++ (X ++ (y ++ T))))
      = noted-over P h T y (at + 12) lPx (lh ∙ sym ly) ∙ simp append_assoc in
      ap (λ (z : List ℕ). noted (noted (noted (slid (slid z (at + (12 + sz)) at (l - at)) (e + 12) e (at - e)) e x) (at + 12) y) 0 F') w1
      ∙ ap (λ (z : List ℕ). noted (noted (noted (slid z (e + 12) e (at - e)) e x) (at + 12) y) 0 F') w2
      ∙ ap (λ (z : List ℕ). noted (noted (noted z e x) (at + 12) y) 0 F') w3
      ∙ ap (λ (z : List ℕ). noted (noted z (at + 12) y) 0 F') w4
      ∙ ap (λ (z : List ℕ). noted z 0 F') w5
      ∙ noted-over [] F (A ++ (x ++ (X ++ (y ++ T)))) F' 0 refl (lF ∙ sym lF') ∙ simp append_assoc

-- one element more, in bytes
entries_with : (es : List Entry) (i : ℕ) (x : Entry)
    → entries_bytes (with_at i x es) ≡ entries_bytes (take i es) ++ (entry_bytes x ++ entries_bytes (drop i es))
unfolding with_at
entries_with es i x = entries-append (take i es) (x ∷ drop i es) ∙ ap (λ (z : List ℕ). entries_bytes (take i es) ++ z) (entries-cons x (drop i es))

chunks-with : (cs : List Chunk) (k : ℕ) (c : Chunk) → chunks_bytes (with_at k c cs) ≡ chunks_bytes (take k cs) ++ (chunk_bytes c ++ chunks_bytes (drop k cs))
unfolding with_at
chunks-with cs k c = chunks-append (take k cs) (c ∷ drop k cs) ∙ ap (λ (z : List ℕ). chunks_bytes (take k cs) ++ z) (chunks-cons c (drop k cs))

-- the file with the entry in it, in parts
module _ (m : Model) (i k u n : ℕ) where
  abbrev entry : Entry
  entry = record { usage = u; number = n; start = start m k + 12 }

  inserted-file : (c : Chunk) → k ≤ length m.chunks → file (inserted m i k u n c) ≡ heading (suc (length m.refs)) (total m.chunks + size c)
      ++ (entries_bytes (with_at i entry (map (moved (risen (start m k) (size c))) (entries m)))
      ++ (chunks_bytes (take k m.chunks) ++ (chunk_bytes c ++ chunks_bytes (drop k m.chunks))))
  inserted-file c h =
      let n1 : length (inserted m i k u n c).refs ≡ suc (length m.refs) = (unfold inserted in length-with i _ _ ∙ ap suc (length-map m.refs _)) in
      let t1 : total (inserted m i k u n c).chunks ≡ total m.chunks + size c = (unfold inserted in total-with k c m.chunks) in
      let c1 : chunks_bytes (inserted m i k u n c).chunks ≡ chunks_bytes (take k m.chunks) ++ (chunk_bytes c ++ chunks_bytes (drop k m.chunks))
      = (unfold inserted in chunks-with m.chunks k c) in
      file_parts (inserted m i k u n c) ∙ (λ z. heading (n1 z) (t1 z) ++ (entries_bytes (starts_inserted m i k u n c h z) ++ c1 z))

  entered-file : file (entered m i k u n) ≡ heading (suc (length m.refs)) (total m.chunks)
      ++ (entries_bytes (with_at i entry (map (moved (λ t. t + 12)) (entries m))) ++ chunks_bytes m.chunks)
  entered-file =
      let n1 : length (entered m i k u n).refs ≡ suc (length m.refs) = (unfold entered in length-with i _ _) in
      let t1 : total (entered m i k u n).chunks ≡ total m.chunks = (unfold entered in refl) in
      let c1 : chunks_bytes (entered m i k u n).chunks ≡ chunks_bytes m.chunks = (unfold entered in refl) in
      file_parts (entered m i k u n) ∙ (λ z. heading (n1 z) (t1 z) ++ (entries_bytes (starts_entered m i k u n z) ++ c1 z))

start-bytes : (m : Model) (k : ℕ) → start m k ≡ 24 + 12 * length m.refs + length (chunks_bytes (take k m.chunks))
unfolding start start_of base
start-bytes m k = ap (λ (z : ℕ). 24 + 12 * length m.refs + z) (sym (length-chunks_bytes (take k m.chunks)))

-- from a file in a buffer, as the code has it
module _ (b : List ℕ) (l k i at u n : ℕ) (stands : Stands b l k) (ins : Insertable b l k i at) where
  abbrev m : Model
  m = model (take l b)

  abbrev kc : ℕ
  kc = place_at (model (take l b)) at

  place : place_at (model (take l b)) at ≤ length (model (take l b)).chunks
  place = place_inside at (base (length m.refs)) m.chunks

  lm : length (file m) ≡ l
  lm = stands_length b l k stands

  whole : b ≡ heading (length m.refs) (total m.chunks) ++ (entries_bytes (entries m) ++ (chunks_bytes m.chunks ++ drop l b))
  whole = sym (take-append-drop l b) ∙ ap (λ (z : List ℕ). z ++ drop l b) (sym stands.whole ∙ file_parts m) ∙ simp append_assoc

  listed_ok : All EntryOk (entries m)
  listed_ok = entries_ok m stands.sound (omega (arith, lm, stands.short))

  at_end : (f : List ℕ) (z : ℕ) → length f ≡ l + z → f ++ drop z (drop l b) ≡ written b l f
  at_end f z e = ap (λ (x : List ℕ). f ++ x) (drop-drop z l b ∙ ap (λ (x : ℕ). drop x b) (sym e)) ∙ sym (written-longer b l f (omega arith))

  pub insert_written : (t : ℕ) (d : List ℕ) → l + (20 + (length d + length d % 2)) ≤ length b
      → noted (noted (noted (slid (slid (starts_moved (risen at (8 + (length d + length d % 2))) k 24 b) (at + (12 + (8 + (length d + length d % 2)))) at
      (l - at)) (24 + 12 * i + 12) (24 + 12 * i) (at - (24 + 12 * i)))
      (24 + 12 * i) (be32 u ++ (be32 n ++ be32 (at + 12)))) (at + 12) (chunk_bytes (chunk_of t d))) 0
      (heading (k + 1) (l - (24 + 12 * k) + (8 + (length d + length d % 2))))
      ≡ written b l (file (inserted (model (take l b)) i (place_at (model (take l b)) at) u n (chunk_of t d)))
  insert_written t d room =
      let c : Chunk = chunk_of t d in
      let sz : ℕ = 8 + (length d + length d % 2) in
      let N : ℕ = length m.refs in
      let es : at ≡ start m kc = ins.starts in
      let c1 : List ℕ = chunks_bytes (take kc m.chunks) in
      let c2 : List ℕ = chunks_bytes (drop kc m.chunks) in
      let cut : chunks_bytes m.chunks ≡ c1 ++ c2 = ap chunks_bytes (sym (take-append-drop kc m.chunks)) ∙ chunks-append (take kc m.chunks)
      (drop kc m.chunks) in
      let tot : total m.chunks ≡ length c1 + length c2 = sym (length-chunks_bytes m.chunks) ∙ ap length cut ∙ length-append c1 c2 in
      let F : List ℕ = heading N (total m.chunks) in
      let w0 : b ≡ F ++ (entries_bytes (entries m) ++ (c1 ++ (c2 ++ drop l b)))
      = whole ∙ ap (λ (z : List ℕ). F ++ (entries_bytes (entries m) ++ z)) (ap (λ (z : List ℕ). z ++ drop l b) cut ∙ append_assoc c1 c2 (drop l b)) in
      let ek : k ≡ N = stands.entries in
      let lr : length (drop l b) ≡ length b - l = length-drop l b in
      let ea : 24 + 12 * N + length c1 ≡ at = sym (es ∙ start-bytes m kc) in
      let el : at + length c2 ≡ l = omega (arith, file-length m, lm) in
      let sc : size c ≡ sz = size_of t d ∙ omega arith in
      let x : Entry = record { usage = u; number = n; start = at + 12 } in
      let k1 : k + 1 ≡ suc N = omega arith in
      let t1 : l - (24 + 12 * k) + sz ≡ total m.chunks + size c = omega (arith, file-length m, lm) in
      let F' : List ℕ = heading (suc N) (total m.chunks + size c) in
      let f : ℕ → ℕ = risen at sz in
      let leaves = chunk_leaves F (entries m) f i N (24 + 12 * i) (length-heading N (total m.chunks)) (length-map m.refs _) listed_ok
      (omega (arith, ins.listed)) refl
      c1 c2 (drop l b) (entry_bytes x) (chunk_bytes c) F' at sz l ea el (omega arith) (length-entry x) (length-chunk_bytes c ∙ sc)
      (length-heading (suc N) (total m.chunks + size c)) in
      let E : List ℕ = entries_bytes (with_at i x (map (moved f) (entries m))) in
      let file_is : file (inserted m i kc u n c) ≡ F' ++ (E ++ (c1 ++ (chunk_bytes c ++ c2)))
      = inserted-file m i kc u n c place
      ∙ (λ z. F' ++ (entries_bytes (with_at i (record { usage = u; number = n; start = sym es z + 12 }) (map (moved (risen (sym es z) (sc z))) (entries m)))
      ++ (c1 ++ (chunk_bytes c ++ c2)))) in
      let lE : length E ≡ 12 * suc N = length-entries_bytes (with_at i x (map (moved f) (entries m)))
      ∙ ap (λ (z : ℕ). 12 * z) (length-with i x (map (moved f) (entries m)) ∙ ap suc (length-map (entries m) _ ∙ length-map m.refs _)) in
      let len : length (file (inserted m i kc u n c)) ≡ l + (12 + sz)
      = ap length file_is ∙ simp length-append (omega (arith, length-heading (suc N) (total m.chunks + size c), length-chunk_bytes c)) in
      (λ z. noted (noted (noted (slid (slid (starts_moved f (ek z) 24 (w0 z)) (at + (12 + sz)) at (l - at)) (24 + 12 * i + 12) (24 + 12 * i)
      (at - (24 + 12 * i)))
      (24 + 12 * i) (sym (entry-bytes u n (at + 12)) z)) (at + 12) (chunk_bytes c)) 0 (heading (k1 z) (t1 z)))
      ∙ leaves
      ∙ (λ z. F' ++ (sym (entries_with (map (moved f) (entries m)) i x) z ++ ((c1 ++ (chunk_bytes c ++ c2)) ++ drop (12 + sz) (drop l b))))
      ∙ last_apart F' E (c1 ++ (chunk_bytes c ++ c2)) (drop (12 + sz) (drop l b))
      ∙ ap (λ (z : List ℕ). z ++ drop (12 + sz) (drop l b)) (sym file_is)
      ∙ at_end (file (inserted m i kc u n c)) (12 + sz) len

  pub enter_written : l + 12 ≤ length b
      → noted (noted (slid (starts_moved (λ t. t + 12) k 24 b) (24 + 12 * i + 12) (24 + 12 * i) (l - (24 + 12 * i))) (24 + 12 * i)
      (be32 u ++ (be32 n ++ be32 (at + 12)))) 0 (heading (k + 1) (l - (24 + 12 * k)))
      ≡ written b l (file (entered (model (take l b)) i (place_at (model (take l b)) at) u n))
  enter_written room =
      let N : ℕ = length m.refs in
      let es : at ≡ start m kc = ins.starts in
      let C : List ℕ = chunks_bytes m.chunks in
      let lC : length C ≡ total m.chunks = length-chunks_bytes m.chunks in
      let F : List ℕ = heading N (total m.chunks) in
      let ek : k ≡ N = stands.entries in
      let lr : length (drop l b) ≡ length b - l = length-drop l b in
      let x : Entry = record { usage = u; number = n; start = at + 12 } in
      let k1 : k + 1 ≡ suc N = omega arith in
      let t1 : l - (24 + 12 * k) ≡ total m.chunks = omega (arith, file-length m, lm) in
      let F' : List ℕ = heading (suc N) (total m.chunks) in
      let f : ℕ → ℕ = λ t. t + 12 in
      let leaves = entry_leaves F (entries m) f i N (24 + 12 * i) (length-heading N (total m.chunks)) (length-map m.refs _) listed_ok
      (omega (arith, ins.listed)) refl
      C (drop l b) (entry_bytes x) F' l (omega (arith, file-length m, lm)) (omega arith) (length-entry x) (length-heading (suc N) (total m.chunks)) in
      let E : List ℕ = entries_bytes (with_at i x (map (moved f) (entries m))) in
      let file_is : file (entered m i kc u n) ≡ F' ++ (E ++ C)
      = entered-file m i kc u n ∙ (λ z. F' ++ (entries_bytes (with_at i (record { usage = u; number = n; start = sym es z + 12 }) (map (moved f) (entries m)))
      ++ C)) in
      let lE : length E ≡ 12 * suc N = length-entries_bytes (with_at i x (map (moved f) (entries m)))
      ∙ ap (λ (z : ℕ). 12 * z) (length-with i x (map (moved f) (entries m)) ∙ ap suc (length-map (entries m) _ ∙ length-map m.refs _)) in
      let len : length (file (entered m i kc u n)) ≡ l + 12 = ap length file_is
      ∙ simp length-append (omega (arith, length-heading (suc N) (total m.chunks), file-length m, lm)) in
      (λ z. noted (noted (slid (starts_moved f (ek z) 24 (whole z)) (24 + 12 * i + 12) (24 + 12 * i) (l - (24 + 12 * i))) (24 + 12 * i)
      (sym (entry-bytes u n (at + 12)) z)) 0 (heading (k1 z) (t1 z)))
      ∙ leaves
      ∙ (λ z. F' ++ (sym (entries_with (map (moved f) (entries m)) i x) z ++ (C ++ drop 12 (drop l b))))
      ∙ last_apart F' E C (drop 12 (drop l b))
      ∙ ap (λ (z : List ℕ). z ++ drop 12 (drop l b)) (sym file_is)
      ∙ at_end (file (entered m i kc u n)) 12 len

-- a record that fits the file gives what the code asks
module _ (b : List ℕ) (l k : ℕ) (stands : Stands b l k) (r : Rec) where
  insertable : (r.place ≤ length (model (take l b)).refs) × (r.start ≡ start (model (take l b)) (old_place r (model (take l b))) + 12)
      → Insertable b l k r.place (r.start - 12)
  insertable h =
      let m : Model = model (take l b) in
      let lf : length (file m) ≡ l = stands_length b l k stands in
      let tt : length (chunks_bytes (take (old_place r m) m.chunks)) ≤ total m.chunks =
      omega (arith, length-chunks_bytes (take (old_place r m) m.chunks), total-take (old_place r m) m.chunks) in
      let e : r.start - 12 ≡ start m (old_place r m) = omega (arith, h.1) in
      record {
        listed = omega (arith, h.0, stands.entries);
        starts = e;
        behind = omega (arith, e, start-bytes m (old_place r m), stands.entries);
        ends = omega (arith, e, start-bytes m (old_place r m), file-length m);
      }

  pub insertable3 : fits3 r (model (take l b)) ≡ true → Insertable b l k r.place (r.start - 12)
  insertable3 h = insertable (fit3 (model (take l b)) r h)

  pub insertable4 : fits4 r (model (take l b)) ≡ true → Insertable b l k r.place (r.start - 12)
  insertable4 h = insertable (fit4 (model (take l b)) r h)

-- The bytes of a replacement.
use mathlib.Core.Path.{◌≡◌, refl, sym, ap, ◌∙◌}
use Prim.Native.Nat.{ℕ, suc, ◌+◌, ◌*◌, ◌-◌, ◌≤◌, ◌<◌}
use mathlib.Core.List.{List, [], ◌++◌, map}
use mathlib.Core.Bool.{Bool, true, false, cond}
use native.Mathlib.Omega.{arith}
use native.Mathlib.Nat.{add-zero, sub-zero}
use lib.ListN.{length, take, drop, set, length-append, length-map}
use lib.Seq.{length-take-le}
use lib.Dec.{ltb}
use borrow.Author.Tests.{le-ltb}
use Rattle.blorb.specs.Format.{Chunk, Entry, size, entries_bytes, chunk_bytes, chunks_bytes, total, chunk_of}
use Rattle.blorb.specs.Layout.{heading}
use Rattle.blorb.specs.Verdict.{no_chunk}
use Rattle.blorb.specs.Model.{Model, base, start_of, file, model}
use Rattle.blorb.specs.Queries.{ref_at, chunk_at, start}
use Rattle.edits.specs.Edit.{replaced}
use Rattle.blorb.specs.All.{All}
use Rattle.blorb.specs.Sound.{W}
use Rattle.blorb.specs.Bytes.{Byte}
use Rattle.blorb.proofs.Codec.{length-entries_bytes, length-chunks_bytes, length-chunk_bytes}
use Rattle.blorb.proofs.ModelLaws.{entries, entries_ok, size-get_or, chunk_in}
use Rattle.edits.specs.Starts.{moved, behind}
use Rattle.edits.proofs.Starts.{starts_replaced}
use Rattle.blorb.proofs.Parts.{file_parts, file-length, length-heading, chunks_around, chunks-set}
use Rattle.edits.proofs.Lengths.{total_put}
use Rattle.edits.specs.Run.{noted, written}
use Rattle.moves.specs.Moves.{starts_moved, relocated}
use Rattle.moves.specs.declared.Move.{Move}
use Rattle.rewrite.specs.Rewriting.{Stands, closed, resized, Replaceable}
use Rattle.edits.proofs.Noted.{noted-none}
use Rattle.moves.proofs.ShiftLaws.{slid_onto}
use Rattle.moves.proofs.MoveLaws.{starts_stay}
use Rattle.rewrite.proofs.Content.{written-first, put_written, starts_written, Resized, resized-written}
use Rattle.rewrite.proofs.Writes.{last_apart}

pub relocated-behind : (m : Move) (s a b : ℕ) → m.limit ≡ s → m.behind.up ≡ b → m.behind.down ≡ a → m.others.up ≡ 0 → m.others.down ≡ 0
    → relocated m ≡ behind s a b
unfolding relocated
relocated-behind m s a b p q r t w = λ i x. all x i
  where
    all : (x : ℕ) → cond (ltb m.limit x) (x + m.behind.up - m.behind.down) (x + m.others.up - m.others.down) ≡ behind s a b x
    all x = rw (p, q, r, t, w, add-zero x, sub-zero x)

-- a part of the same size: no start moves, and no byte
behind_stay : (s a x : ℕ) → behind s a a x ≡ x
behind_stay s a x = go (ltb s x)
  where
    go : (t : Bool) → cond t (x + a - a) x ≡ x
    go true = omega arith
    go false = refl

pub starts_kept : (b : List ℕ) (k st old new : ℕ) → old ≡ new → All Byte b → 24 + 12 * k ≤ length b → b ≡ starts_moved (behind st old new) k 24 b
starts_kept b k st old new e bytes h =
    sym (ap (λ (a : ℕ). starts_moved (behind st a new) k 24 b) e ∙ starts_stay (behind st new new) (behind_stay st new) k 24 b bytes h)

pub resized-same : (b : List ℕ) (at len old new : ℕ) → old ≡ new → b ≡ resized b at len old new
unfolding resized closed
resized-same b at len old new e =
    let z : new - new ≡ 0 = omega arith in
    let n : at + new + 0 ≡ at + new = omega arith in
    let m : at + new - 0 ≡ at + new = omega arith in
    sym (ap (λ (a : ℕ). resized b at len a new) e ∙ rw (le-ltb new new (omega arith), z, n, m, slid_onto b (at + new) (len - (at + new)))
    (noted-none b (len - 0)))

start-total : (m : Model) (k : ℕ) → start m k ≡ 24 + 12 * length m.refs + total (take k m.chunks)
unfolding start start_of base
start-total m k = refl

total-new : (m : Model) (k : ℕ) (c : Chunk) → k < length m.chunks → (l n old new : ℕ) → l ≡ 24 + 12 * length m.refs + total m.chunks
    → n ≡ length m.refs → old ≡ size (chunk_at m k) → new ≡ size c
    → l - (24 + 12 * n) - old + new ≡ total (replaced m k c).chunks
unfolding replaced
total-new m k c h l n old new el en eo ew = omega (arith, total_put m.chunks k c h, size-get_or m.chunks k no_chunk h)

parts_replaced : (m : Model) (k : ℕ) (c : Chunk) → file (replaced m k c) ≡ heading (length m.refs) (total (replaced m k c).chunks)
    ++ (entries_bytes (entries (replaced m k c)) ++ chunks_bytes (replaced m k c).chunks)
unfolding replaced
parts_replaced m k c = file_parts (record { refs = m.refs; chunks = set m.chunks k c })

chunks-replaced : (m : Model) (k : ℕ) (c : Chunk) → k < length m.chunks → chunks_bytes (replaced m k c).chunks ≡ chunks_bytes (take k m.chunks)
    ++ (chunk_bytes c ++ chunks_bytes (drop (suc k) m.chunks))
unfolding replaced
chunks-replaced m k c h = chunks-set m.chunks k c h

pub replace-written : (b : List ℕ) (l k i st old new t : ℕ) (d : List ℕ) → Stands b l k → Replaceable b l k i st old
    → new ≡ size (chunk_of t d) → l + (new - old) ≤ length b
    → noted (noted (starts_moved (behind st old new) k 24 (resized b st l old new)) 0 (heading k (l - (24 + 12 * k) - old + new))) st
    (chunk_bytes (chunk_of t d))
    ≡ written b l (file (replaced (model (take l b)) (ref_at (model (take l b)) i).chunk (chunk_of t d)))
replace-written b l k i st old new t d stands rp en room =
    let m : Model = model (take l b) in
    let kc : ℕ = (ref_at m i).chunk in
    let c : Chunk = chunk_of t d in
    let n : ℕ = length m.refs in
    let ek : k ≡ n = stands.entries in
    let hi : i < n = omega (arith, rp.listed) in
    let th : kc < length m.chunks = chunk_in m i stands.sound hi in
    let lL : length (take l b) ≡ l = length-take-le l b stands.inside in
    let lm : length (file m) ≡ l = ap length stands.whole ∙ lL in
    let small : length (file m) < W = omega (arith, stands.short) in
    let es : List Entry = entries m in
    let f : ℕ → ℕ = behind st old new in
    let F : List ℕ = heading n (total m.chunks) in
    let E : List ℕ = entries_bytes es in
    let E' : List ℕ = entries_bytes (map (moved f) es) in
    let c1 : List ℕ = chunks_bytes (take kc m.chunks) in
    let cx : List ℕ = chunk_bytes (chunk_at m kc) in
    let c2 : List ℕ = chunks_bytes (drop (suc kc) m.chunks) in
    let ln : length es ≡ n = length-map m.refs _ in
    let lE : length E ≡ 12 * n = length-entries_bytes es ∙ ap (λ (z : ℕ). 12 * z) ln in
    let lE' : length E' ≡ 12 * n = length-entries_bytes (map (moved f) es) ∙ ap (λ (z : ℕ). 12 * z) (length-map es _ ∙ ln) in
    let lF : length F ≡ 24 = length-heading n (total m.chunks) in
    let lc1 : length c1 ≡ total (take kc m.chunks) = length-chunks_bytes (take kc m.chunks) in
    let lcx : length cx ≡ old = length-chunk_bytes (chunk_at m kc) ∙ sym rp.sized in
    let es0 : st ≡ 24 + 12 * n + total (take kc m.chunks) = rp.starts ∙ start-total m kc in
    let p1 : List ℕ = F ++ (E ++ c1) in
    let lp1 : length p1 ≡ st = length-append F (E ++ c1) ∙ ap (λ (z : ℕ). length F + z) (length-append E c1) ∙ omega arith in
    let cont : take l b ≡ p1 ++ (cx ++ c2) = sym stands.whole ∙ file_parts m ∙ ap (λ (z : List ℕ). F ++ (E ++ z)) (chunks_around m.chunks kc th)
    ∙ last_apart F E c1 (cx ++ c2) in
    let w0 : b ≡ written b l (p1 ++ (cx ++ c2)) = written-first b l stands.inside ∙ ap (written b l) cont in
    let rz : Resized b l p1 c2 new (resized (written b l (p1 ++ (cx ++ c2))) st l old new)
    = resized-written b l p1 cx c2 st old new l lp1 lcx (ap length (sym cont) ∙ lL) (omega arith) room stands.inside in
    let h : List ℕ = rz.hole in
    let w1 : resized b st l old new ≡ written b l (F ++ (E ++ (c1 ++ (h ++ c2))))
    = ap (λ (z : List ℕ). resized z st l old new) w0 ∙ rz.stands ∙ ap (written b l) (sym (last_apart F E c1 (h ++ c2))) in
    let w2 : starts_moved f k 24 (resized b st l old new) ≡ written b l (F ++ (E' ++ (c1 ++ (h ++ c2))))
    = (λ z. starts_moved f ((ek ∙ sym ln) z) 24 (w1 z)) ∙ starts_written b l f F es (c1 ++ (h ++ c2)) 24 lF (entries_ok m stands.sound small)
    (lE' ∙ sym lE) in
    let tt : l - (24 + 12 * k) - old + new ≡ total (replaced m kc c).chunks = total-new m kc c th l k old new (sym lm ∙ file-length m) ek rp.sized en in
    let F' : List ℕ = heading n (total (replaced m kc c).chunks) in
    let fr : heading k (l - (24 + 12 * k) - old + new) ≡ F' = λ z. heading (ek z) (tt z) in
    let w3 : noted (written b l (F ++ (E' ++ (c1 ++ (h ++ c2))))) 0 F' ≡ written b l (F' ++ (E' ++ (c1 ++ (h ++ c2))))
    = put_written b l [] F (E' ++ (c1 ++ (h ++ c2))) F' 0 refl (lF ∙ sym (length-heading n (total (replaced m kc c).chunks))) in
    let p2 : List ℕ = F' ++ (E' ++ c1) in
    let lF' : length F' ≡ 24 = length-heading n (total (replaced m kc c).chunks) in
    let lp2 : length p2 ≡ st = length-append F' (E' ++ c1) ∙ ap (λ (z : ℕ). length F' + z) (length-append E' c1) ∙ omega arith in
    let w4 : noted (written b l (p2 ++ (h ++ c2))) st (chunk_bytes c) ≡ written b l (p2 ++ (chunk_bytes c ++ c2))
    = put_written b l p2 h c2 (chunk_bytes c) st lp2 (rz.hole_length ∙ en ∙ sym (length-chunk_bytes c)) in
    let ee : E' ≡ entries_bytes (entries (replaced m kc c))
    = (λ z. entries_bytes (map (moved (behind (rp.starts z) (rp.sized z) (en z))) es)) ∙ ap entries_bytes (sym (starts_replaced m kc c th)) in
    let ch : c1 ++ (chunk_bytes c ++ c2) ≡ chunks_bytes (replaced m kc c).chunks = sym (chunks-replaced m kc c th) in
    (λ z. noted (noted (w2 z) 0 (fr z)) st (chunk_bytes c))
    ∙ ap (λ (z : List ℕ). noted z st (chunk_bytes c)) (w3 ∙ ap (written b l) (last_apart F' E' c1 (h ++ c2)))
    ∙ w4 ∙ ap (written b l) (sym (last_apart F' E' c1 (chunk_bytes c ++ c2)) ∙ (λ z. heading n (total (replaced m kc c).chunks) ++ (ee z ++ ch z))
    ∙ sym (parts_replaced m kc c))

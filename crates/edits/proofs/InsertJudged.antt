-- Whether the file is accepted with one more entry, and with one more chunk, put in anywhere, as one test.
use mathlib.Core.Path.{◌≡◌, refl, ap, ◌∙◌}
use Prim.Native.Nat.{ℕ, zero, suc, ◌+◌, ◌≤◌, ◌<◌}
use mathlib.Core.List.{List, [], ◌∷◌, ◌++◌, map}
use mathlib.Core.Bool.{Bool, true, false, cond, ◌&&◌, ◌||◌, not, and-true, or-true}
use native.Mathlib.Omega.{arith}
use native.Mathlib.Nat.{le_of_suc-le-suc, not-suc-le-zero}
use lib.ListN.{length, get_or, take, drop, length-append, length-take, length-drop, length-map}
use lib.Dec.{eqb, leb}
use borrow.Author.Tests.{lt-ltb, le-ltb, leb-true, leb-false}
use Rattle.blorb.specs.Format.{Ref, Chunk, size, total}
use Rattle.blorb.specs.Tags.{RIdx, Pict, Exec, Rect, Fspc}
use Rattle.blorb.specs.Verdict.{Rules, accept, no_chunk, pair_in, ref_fault, second_index, known_usage_of, verdict, accepted}
use Rattle.blorb.specs.Rules.{allows, picture, type_in, optional, rules_of}
use Rattle.blorb.specs.Model.{Model, base, file}
use Rattle.blorb.specs.Queries.{find, front_number}
use Rattle.blorb.specs.All.{All}
use Rattle.blorb.proofs.AllLaws.{all_append, all_take, all_drop, all_map}
use Rattle.blorb.specs.Sound.{W, RefOk, ChunkOk, Sound}
use Rattle.blorb.proofs.Checks.{then_accept, check_accept, pass, or_map}
use Rattle.blorb.proofs.ModelLaws.{length-file}
use Rattle.blorb.proofs.VerdictLaws.{refs_fault, model_fault, refs_in_order}
use Rattle.blorb.proofs.FindLaws.{pair_found}
use Rattle.edits.specs.Edit.{with_at, raise, entered, inserted}
use Rattle.edits.proofs.AddVerdict.{second-any}
use Rattle.edits.proofs.Starts.{map-append}
use Rattle.edits.proofs.RuleSeven.{allowed_plain}
use Rattle.edits.proofs.FrontLaws.{Like, like_self, like_with, optional_like, front-picture}
use Rattle.edits.proofs.UndoVerdict.{accepted_then, accepted-check, refs_with}
use Rattle.edits.proofs.JudgedLaws.{model_parts, accepted-file, accepted-front}

module _ {A : Type 0} where
  pub length-with : (i : ℕ) (x : A) (l : List A) → length (with_at i x l) ≡ suc (length l)
  unfolding with_at
  length-with i x l = simp (length-append, length-take, length-drop) (omega arith)

  pub all-with : (P : A → Type 0) (i : ℕ) (x : A) (l : List A) → P x → All P l → All P (with_at i x l)
  unfolding with_at
  all-with P i x l p h = all_append P (take i l) (x ∷ drop i l) (all_take P i l h) (p, all_drop P i l h)

  pub get_or-with-same : (k : ℕ) (x : A) (l : List A) (d : A) → k ≤ length l → get_or (with_at k x l) k d ≡ x
  unfolding with_at
  get_or-with-same zero x l d h = refl
  get_or-with-same (suc k) x [] d h = absurd (not-suc-le-zero h)
  get_or-with-same (suc k) x (y ∷ l) d h = get_or-with-same k x l d (le_of_suc-le-suc h)

  get_or-with-before : (k j : ℕ) (x : A) (l : List A) (d : A) → k ≤ length l → j < k → get_or (with_at k x l) j d ≡ get_or l j d
  unfolding with_at
  get_or-with-before zero j x l d h b = absurd (not-suc-le-zero b)
  get_or-with-before (suc k) j x [] d h b = absurd (not-suc-le-zero h)
  get_or-with-before (suc k) zero x (y ∷ l) d h b = refl
  get_or-with-before (suc k) (suc j) x (y ∷ l) d h b = get_or-with-before k j x l d (le_of_suc-le-suc h) (le_of_suc-le-suc b)

  get_or-with-behind : (k j : ℕ) (x : A) (l : List A) (d : A) → k ≤ length l → k ≤ j → get_or (with_at k x l) (suc j) d ≡ get_or l j d
  unfolding with_at
  get_or-with-behind zero j x l d h b = refl
  get_or-with-behind (suc k) j x [] d h b = absurd (not-suc-le-zero h)
  get_or-with-behind (suc k) zero x (y ∷ l) d h b = absurd (not-suc-le-zero b)
  get_or-with-behind (suc k) (suc j) x (y ∷ l) d h b = get_or-with-behind k j x l d (le_of_suc-le-suc h) (le_of_suc-le-suc b)

pub total-with : (k : ℕ) (c : Chunk) (cs : List Chunk) → total (with_at k c cs) ≡ total cs + size c
unfolding with_at total
total-with zero c cs = omega arith
total-with (suc k) c [] = omega arith
total-with (suc k) c (x ∷ cs) = omega (arith, total-with k c cs)

-- an entry's chunk stays the same when another comes in at k
raised-chunk : (cs : List Chunk) (k : ℕ) (c : Chunk) (r : Ref) → k ≤ length cs → get_or (with_at k c cs) (raise k r).chunk no_chunk ≡ get_or cs r.chunk no_chunk
unfolding raise
raised-chunk cs k c r h = go (leb k r.chunk) refl
  where
    go : (b : Bool) → leb k r.chunk ≡ b → get_or (with_at k c cs) (cond b (suc r.chunk) r.chunk) no_chunk ≡ get_or cs r.chunk no_chunk
    go true e = get_or-with-behind k r.chunk c cs no_chunk h (leb-true k r.chunk e)
    go false e = get_or-with-before k r.chunk c cs no_chunk h (leb-false k r.chunk e)

pair-raise : (k u n : ℕ) (rs : List Ref) → pair_in u n (map (raise k) rs) ≡ pair_in u n rs
unfolding pair_in raise
pair-raise k u n [] = refl
pair-raise k u n (r ∷ rs) = rw (pair-raise k u n rs)

refs_raise : (R : Rules) (cs : List Chunk) (k : ℕ) (c : Chunk) (earlier : List Ref) (p : ℕ) (rs : List Ref) → k ≤ length cs
    → refs_fault R (with_at k c cs) (map (raise k) earlier) p (map (raise k) rs) ≡ refs_fault R cs earlier p rs
unfolding refs_fault ref_fault
refs_raise R cs k c earlier p [] h = refl
refs_raise R cs k c earlier p (r ∷ rs) h =
    rw (
      raised-chunk cs k c r h,
      pair-raise k (raise k r).usage (raise k r).number earlier,
      ← map-append (raise k) earlier (r ∷ []),
      refs_raise R cs k c
          (earlier ++ (r ∷ [])) (p + 12) rs h,
    )
    (unfold raise in refl)

picture-raise : (q : ℕ) (cs : List Chunk) (k : ℕ) (c : Chunk) (rs : List Ref) → k ≤ length cs → picture q (with_at k c cs) (map (raise k) rs) ≡ picture q cs rs
unfolding picture
picture-raise q cs k c [] h = refl
picture-raise q cs k c (r ∷ rs) h = rw (raised-chunk cs k c r h, picture-raise q cs k c rs h) (unfold raise in refl)

-- a picture stays there when an entry comes in
pub picture-with : (q : ℕ) (cs : List Chunk) (i : ℕ) (x : Ref) (rs : List Ref) → picture q cs rs ≡ true → picture q cs (with_at i x rs) ≡ true
unfolding picture with_at
picture-with q cs zero x rs h = rw h (or-true (eqb x.usage Pict && eqb x.number q && not (eqb (get_or cs x.chunk no_chunk).type Rect)))
picture-with q cs (suc i) x [] h = let z : ◌≡◌ {A = ℕ} 0 1 = cc in absurd (omega arith)
picture-with q cs (suc i) x (r ∷ rs) h =
    or_map (eqb r.usage Pict && eqb r.number q && not (eqb (get_or cs r.chunk no_chunk).type Rect)) (picture q cs rs)
    (picture q cs (take i rs ++ x ∷ drop i rs)) h (picture-with q cs i x rs)

-- a second index: only the new chunk can be one
second-with : (at at' : ℕ) (cs : List Chunk) (k : ℕ) (c : Chunk) → second_index at cs ≡ accept → accepted (second_index at' (with_at k c cs)) ≡ not
    (eqb c.type RIdx)
unfolding second_index with_at
second-with at at' cs zero c ok =
    accepted_then _ _ ∙ rw (accepted-check (not (eqb c.type RIdx)) 9 at', second-any at (at' + size c) cs ok) (and-true (not (eqb c.type RIdx)))
second-with at at' [] (suc k) c ok = accepted_then _ _ ∙ rw (accepted-check (not (eqb c.type RIdx)) 9 at') (and-true (not (eqb c.type RIdx)))
second-with at at' (x ∷ cs) (suc k) c ok =
    let p = then_accept _ _ ok in
    ap accepted (pass _ _ _ _ (check_accept _ _ _ p.0)) ∙ second-with (at + size x) (at' + size x) cs k c p.1

-- 12 and 14 to 16 of an entry (u, n) on chunk c, rs being the others
abbrev pub entry_tests : (profile : ℕ) → ℕ → ℕ → Chunk → List Ref → Bool
entry_tests profile u n c rs = known_usage_of u && (allows profile u c && ((not (eqb u Exec) || eqb n 0) && not (pair_in u n rs)))

-- the last of them by the place that the reader gives for the pair
pub entry_new : (profile u n : ℕ) (c : Chunk) (rs : List Ref) → length rs ≤ find u n rs → entry_tests profile u n c
    rs ≡ (known_usage_of u && (allows profile u c && (not (eqb u Exec) || eqb n 0)))
entry_new profile u n c rs h =
    let e : pair_in u n rs ≡ false = pair_found u n rs ∙ le-ltb (find u n rs) (length rs) h in
    rw (e, and-true (not (eqb u Exec) || eqb n 0))

pub entry-twice : (profile u n : ℕ) (c : Chunk) (rs : List Ref) → find u n rs < length rs → entry_tests profile u n c rs ≡ false
entry-twice profile u n c rs h =
    let e : pair_in u n rs ≡ true = pair_found u n rs ∙ lt-ltb (find u n rs) (length rs) h in
    rw e (none (known_usage_of u) (allows profile u c) (not (eqb u Exec) || eqb n 0))
  where
    none : (a b c : Bool) → a && (b && (c && false)) ≡ false
    none true true true = refl
    none true true false = refl
    none true false c = refl
    none false b c = refl

entry-tests : (profile : ℕ) (cs : List Chunk) (i : ℕ) (x : Ref) (rs : List Ref) → refs_fault (rules_of profile) cs [] 24 rs ≡ accept
    → accepted (refs_fault (rules_of profile) cs [] 24 (with_at i x rs)) ≡ entry_tests profile x.usage x.number (get_or cs x.chunk no_chunk) rs
unfolding pair_in
entry-tests profile cs i x rs ok =
    refs_with (rules_of profile) cs x [] 24 i rs ok
    ∙ turn (known_usage_of x.usage) (allows profile x.usage (get_or cs x.chunk no_chunk)) (not (eqb x.usage Exec) || eqb x.number 0)
    (not (pair_in x.usage x.number rs))
  where
    turn : (a b c d : Bool) → (a && (b && c)) && d ≡ a && (b && (c && d))
    turn true true c d = refl
    turn true false c d = refl
    turn false b c d = refl

-- rule 7 where no picture goes
pub front_stays : (at at' : ℕ) (rs rs' : List Ref) (a b : List Chunk) → Like a b → optional at rs a ≡ accept
    → (picture (front_number a) a rs ≡ true → picture (front_number a) b rs' ≡ true) → accepted (optional at' rs' b) ≡ true
front_stays at at' rs rs' a b l h f =
    ap accepted (optional_like at at' rs rs' a b l h)
    ∙ accepted-front (type_in Fspc a) (picture (front_number a) b rs') _
    ∙ go (type_in Fspc a) refl
  where
    go : (x : Bool) → type_in Fspc a ≡ x → not (x && not (picture (front_number a) b rs')) ≡ true
    go false e = refl
    go true e = ap (λ (z : Bool). not (not z)) (f (front-picture at rs a h e))

-- an entry put in at i
module _ (profile : ℕ) (m : Model) (i k u n : ℕ) (s : Sound m) (ok : model_fault (rules_of profile) m ≡ accept) (fits : RefOk (length m.chunks)
    (record { usage = u; number = n; chunk = k })) where
  abbrev new : Ref
  new = record { usage = u; number = n; chunk = k }

  pub entered-sound : Sound (entered m i k u n)
  unfolding entered
  entered-sound = record { refs_ok = all-with (RefOk (length m.chunks)) i new m.refs fits s.refs_ok; chunks_ok = s.chunks_ok }

  pub entered-length : length (file (entered m i k u n)) ≡ length (file m) + 12
  unfolding entered base
  entered-length = rw (length-file (entered m i k u n), length-file m) (omega (arith, length-with i new m.refs))

  pub entered-accepted : accepted (verdict (rules_of profile) (file (entered m i k u n)))
      ≡ (refs_in_order 0 (entered m i k u n).refs
      && (leb (length (file m) + 12) 16777216 && (leb (suc (length m.refs)) 4096 && entry_tests profile u n (get_or m.chunks k no_chunk) m.refs)))
  unfolding entered
  entered-accepted =
      let p = model_parts profile m ok in
      let at : ℕ = base (length m.refs) in
      let at' : ℕ = base (suc (length m.refs)) in
      let rs' : List Ref = with_at i new m.refs in
      accepted-file profile (entered m i k u n) entered-sound
      ∙ rw (
        entered-length,
        length-with i new m.refs,
        second-any at at' m.chunks p.no_second,
        entry-tests profile m.chunks i new m.refs p.entries_fine,
        front_stays at at' m.refs rs' m.chunks m.chunks (like_self m.chunks) p.seven (picture-with (front_number m.chunks) m.chunks i new
            m.refs),
      )
      (ap (λ (b : Bool). refs_in_order 0 rs' && (leb (length (file m) + 12) 16777216 && (leb (suc (length m.refs)) 4096 && b)))
      (and-true (entry_tests profile u n (get_or m.chunks k no_chunk) m.refs)))

-- an entry put in at i and its chunk at k
raise_ok : (k n : ℕ) (r : Ref) → RefOk n r → RefOk (suc n) (raise k r)
unfolding raise
raise_ok k n r ok = record { usage_fits = ok.usage_fits; number_fits = ok.number_fits; chunk_there = go (leb k r.chunk) }
  where
    go : (b : Bool) → cond b (suc r.chunk) r.chunk < suc n
    go true = omega (arith, ok.chunk_there)
    go false = omega (arith, ok.chunk_there)

module _ (profile : ℕ) (m : Model) (i k u n : ℕ) (c : Chunk) (s : Sound m) (ok : model_fault (rules_of profile) m ≡ accept) (here : k ≤ length m.chunks) where
  abbrev x : Ref
  x = record { usage = u; number = n; chunk = k }

  abbrev cs' : List Chunk
  cs' = with_at k c m.chunks

  abbrev up : List Ref
  up = map (raise k) m.refs

  pub inserted-sound : u < W → n < W → c.type < W → Sound (inserted m i k u n c)
  unfolding inserted
  inserted-sound hu hn ht =
      let l : length cs' ≡ suc (length m.chunks) = length-with k c m.chunks in
      record {
        refs_ok = all-with (RefOk (length cs')) i x up (record { usage_fits = hu; number_fits = hn; chunk_there = omega arith })
            (rw l (all_map (RefOk (length m.chunks)) (RefOk (suc (length m.chunks))) (raise k) (raise_ok k (length m.chunks)) m.refs s.refs_ok));
        chunks_ok = all-with ChunkOk k c m.chunks (record { type_fits = ht }) s.chunks_ok;
      }

  inserted_count : length (with_at i x up) ≡ suc (length m.refs)
  inserted_count = length-with i x up ∙ ap suc (length-map m.refs (raise k))

  pub inserted-length : length (file (inserted m i k u n c)) ≡ length (file m) + 12 + size c
  unfolding inserted base
  inserted-length = rw (length-file (inserted m i k u n c), length-file m) (omega (arith, inserted_count, total-with k c m.chunks))

  pub inserted-accepted : u < W → n < W → c.type < W → accepted (verdict (rules_of profile) (file (inserted m i k u n c)))
      ≡ (refs_in_order 0 (inserted m i k u n c).refs
      && (leb (length (file m) + 12 + size c) 16777216 && (not (eqb c.type RIdx) && (leb (suc (length m.refs)) 4096 && entry_tests profile u n c
      m.refs))))
  unfolding inserted
  inserted-accepted hu hn ht =
      let p = model_parts profile m ok in
      let at : ℕ = base (length m.refs) in
      let at' : ℕ = base (suc (length m.refs)) in
      let e : accepted (refs_fault (rules_of profile) cs' [] 24 (with_at i x up)) ≡ entry_tests profile u n c m.refs
      = entry-tests profile cs' i x up (refs_raise (rules_of profile) m.chunks k c [] 24 m.refs here ∙ p.entries_fine)
      ∙ rw (get_or-with-same k c m.chunks no_chunk here, pair-raise k u n m.refs) in
      let q : allows profile u c ≡ true → accepted (optional at' (with_at i x up) cs') ≡ true
      = λ pl. front_stays at at' m.refs (with_at i x up) m.chunks cs' (like_with m.chunks k c (allowed_plain profile u c pl)) p.seven
      (λ h. picture-with (front_number m.chunks) cs' i x up (picture-raise (front_number m.chunks) m.chunks k c m.refs here ∙ h)) in
      accepted-file profile (inserted m i k u n c) (inserted-sound hu hn ht)
      ∙ rw (inserted-length, inserted_count, second-with at at' m.chunks k c p.no_second, e)
      (ap (λ (b : Bool). refs_in_order 0 (with_at i x up)
      && (leb (length (file m) + 12 + size c) 16777216 && (not (eqb c.type RIdx) && (leb (suc (length m.refs)) 4096 && b))))
      (last (known_usage_of u) (allows profile u c) ((not (eqb u Exec) || eqb n 0) && not (pair_in u n m.refs)) (accepted (optional at' (with_at i x up) cs')) q))
    where
      last : (a b c z : Bool) → (b ≡ true → z ≡ true) → (a && (b && c)) && z ≡ a && (b && c)
      last true true c z f = rw (f refl) (and-true c)
      last true false c z f = refl
      last false b c z f = refl

-- What the rewrites of a file in place are told and what they promise.
use Rattle.std.specs.Prelude.{◌≡◌, ℕ, ◌+◌, ◌*◌, ◌-◌, ◌≤◌, ◌<◌, List, cond, length, take, replicate, ltb}
use Rattle.blorb.specs.Format.{size}
use Rattle.blorb.specs.Model.{model, file}
use Rattle.blorb.specs.Queries.{ref_at, chunk_at, start, place_at}
use Rattle.blorb.specs.Sound.{Sound}
use Rattle.edits.specs.GoneSize.{gone_size_of}
use Rattle.edits.specs.Run.{noted}
use Rattle.moves.specs.Shift.{slid}

-- the first l bytes of b are the file of their model, as every accepted file is, with k entries
pub record Stands (b : List ℕ) (l k : ℕ) : Type 0 where
  pub inside : l ≤ length b
  pub whole : file (model (take l b)) ≡ take l b
  pub sound : Sound (model (take l b))
  pub entries : k ≡ length (model (take l b)).refs
  pub index : 24 + 12 * k ≤ l
  pub short : l ≤ 16777216

-- the k bytes at `at` of the first len go, what stands behind them closes up, and k zeros follow
unfoldable pub closed : List ℕ → ℕ → ℕ → ℕ → List ℕ
closed b at len k = noted (slid b (at + k - k) (at + k) (len - (at + k))) (len - k) (replicate k 0)

-- entry i's chunk starts at s, and a bytes of it go
pub record Removable (b : List ℕ) (l k i s a : ℕ) : Type 0 where
  pub listed : i < k
  pub starts : s ≡ start (model (take l b)) (ref_at (model (take l b)) i).chunk
  pub gone : a ≡ gone_size_of (model (take l b)) i
  pub behind : 24 + 12 * k ≤ s
  pub ends : s + a ≤ l

-- where an entry can go in, alone or with its chunk: i is a place in the index or its end; a chunk behind the index begins at s, or the file
-- ends there
pub record Insertable (b : List ℕ) (l k i s : ℕ) : Type 0 where
  pub listed : i ≤ k
  pub starts : s ≡ start (model (take l b)) (place_at (model (take l b)) s)
  pub behind : 24 + 12 * k ≤ s
  pub ends : s ≤ l

-- the part of old bytes at `at` of the first len gets new bytes
unfoldable pub resized : List ℕ → ℕ → ℕ → ℕ → ℕ → List ℕ
resized b at len old new =
    cond (ltb old new) (slid b (at + old + (new - old)) (at + old) (len - (at + old))) (closed b (at + new) len (old - new))

-- entry i's chunk, its own, starts at s and has a bytes
pub record Replaceable (b : List ℕ) (l k i s a : ℕ) : Type 0 where
  pub listed : i < k
  pub starts : s ≡ start (model (take l b)) (ref_at (model (take l b)) i).chunk
  pub sized : a ≡ size (chunk_at (model (take l b)) (ref_at (model (take l b)) i).chunk)
  pub behind : 24 + 12 * k ≤ s
  pub ends : s + a ≤ l

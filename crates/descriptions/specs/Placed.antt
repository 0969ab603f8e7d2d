-- The data of an 'RDes' as contracts see its entries, and what is known of them.
use Rattle.std.specs.Prelude.{◌≡◌, ℕ, ◌+◌, ◌≤◌, ◌<◌, List, true, length}
use Rattle.blorb.specs.All.{All}
use Rattle.blorb.specs.Bytes.{rd32, Byte}
use Rattle.rdes.specs.Rdes.{fills_from}

-- the data of an 'RDes', and where it begins in the file
pub record Placed : Type 0 where
  pub bytes : List ℕ
  pub start : ℕ

-- count entries fill these data, which lie in a file
pub record Filled (bytes : List ℕ) (start count : ℕ) : Type 0 where
  pub octets : All Byte bytes
  pub some : 4 ≤ length bytes
  pub counted : count ≡ rd32 bytes
  pub filled : fills_from bytes count 4 ≡ true
  pub room : start + 8 + length bytes < 9223372036854775808

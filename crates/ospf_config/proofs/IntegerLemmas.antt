-- The integers at keys whose values are in their ranges.
use Rattle.std.proofs.Common.{◌≡◌, ◌≤◌, ℕ, Option, Some, None, Ok, codes, ap, arith}
use Rattle.std.specs.Prelude.{ℤ, pos, ◌≤ℤ◌}
use Rattle.std.proofs.lemmas.Int.{ints}
use Rattle.toml.specs.Data.{Data, Members, get_member, as_integer}
use Rattle.ospf_config.specs.Reading.{ReadsValue, Optional, IsNumberIn, integer_or}
use Rattle.ospf_config.specs.Keys.{ReadsHello, ReadsDead}
use Rattle.ospf_config.specs.Tables.{IsDeadNotOverHello}

value_integer : (z : Option ℤ) (low high n : ℕ) → ReadsValue (IsNumberIn low high) z (Ok n) → z ≡ Some (pos n)
value_integer None low high n h = cc
value_integer (Some z) low high n h = ap Some h.0

-- a number in its range is the integer at its key
read_integer : (o : Option Data) (low high default n : ℕ) → Optional as_integer (IsNumberIn low high) default o (Ok n) → integer_or default o ≡ Some (pos n)
read_integer None low high default n h = cc
read_integer (Some d) low high default n h = value_integer (as_integer d) low high n h

-- where both are in their ranges, their numbers are compared
pub alive : (t : Members) (hello dead : ℕ) → (IsDeadNotOverHello t → ⊥) → ReadsHello t (Ok hello) → ReadsDead t (Ok dead) → dead ≤ hello → ⊥
alive t hello dead over h d late =
    over
    (record {
      hello = pos hello;
      dead = pos dead;
      hello_is = read_integer (get_member (codes "hello") t) 1 65535 10 hello h;
      dead_is = read_integer (get_member (codes "dead") t) 1 65535 40 dead d;
      not_over = omega (arith, ints, late);
    })

-- A tick in which no copy comes to MaxAge (RFC 2328, section 14).
use Rattle.std.proofs.Common.{◌≡◌, ◌+◌, ◌%◌, ◌^◌, List, [], length, refl, sym, subst}
use Rattle.std.proofs.lemmas.List.{nil_from_length}
use Rattle.ospf_base.specs.declared.ids.LsaKey.{LsaKey}
use Rattle.ospf_lsdb.specs.Database.{Ages, reached_at}
use Rattle.ospf_area.specs.Acting.{InTurn}
use Rattle.ospf_area.specs.Outputs.{OutputsValue}
use Rattle.ospf_area.specs.State.{AreaValue}
use Rattle.ospf_area.specs.Updates.Aging.{SendsCopy, TickAges}

-- nothing is flooded
pub none_expire : (before after : AreaValue) (out : OutputsValue) → Ages before.database after.database → after ≡ record before { database = after.database; tick = (before.tick + 1) % 2 ^ 64; sent = [] } → 0 ≡ length (reached_at 3600 after.database) → TickAges before out out after
none_expire before after out ages rest none =
    let keys : [] ≡ reached_at 3600 after.database = sym (nil_from_length (reached_at 3600 after.database) (sym none)) in
    record {
      mid = after;
      database = ages;
      rest = rest;
      sends = subst (λ (ks : List LsaKey). InTurn SendsCopy ks after out out after) keys (record { state = refl; outputs = refl });
    }

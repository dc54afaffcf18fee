use Rattle.std.specs.Prelude.{◌≡◌, ◌<◌, ◌≤◌, ◌<ℤ◌, ◌≤ℤ◌, ℕ, List, Some, Contains, length}
use Rattle.ospf_base.specs.Sums.{contents}
use Rattle.ospf_base.specs.declared.ids.Instance.{Instance}
use Rattle.ospf_base.specs.declared.ids.LsaKey.{LsaKey}
use Rattle.ospf_base.specs.declared.ids.RouterId.{RouterId}
use Rattle.ospf_lsa.specs.Lsa.{key_of}
use Rattle.ospf_packet.specs.Meaning.{Meaning}
use Rattle.ospf_packet.specs.PacketOf.{packet_of}
use Rattle.ospf_area.specs.State.{kept_number}
use Rattle.ospf_router.specs.AreaStep.Headers.{Lists}
use Rattle.ospf_router.specs.AreaStep.Packets.{lsas_of, headers_in_body}
use Rattle.ospf_router.specs.AreaStep.Words.{CanName, HasCopy, Asks}
use Rattle.ospf_world.specs.World.{World, Issued, Datagram, Running, router_at, HasItsTable}
use Rattle.ospf_world.specs.Logs.{run_of}
use Rattle.ospf_world.specs.Sound.{IssuedAt, WasIssued, number_in}

-- f was issued after e, at place i, and of its key: with a larger number of the same run, or in a run begun since
pub data IsAfter (i : ℕ) (e f : Issued) : Type 0 where
  SameRun : e.run ≡ f.run → number_in e <ℤ number_in f → IsAfter i e f
  LaterRun : i < f.run.name → IsAfter i e f

-- what the running router x has issued of its own key, at place i: in the present run up to the kept number, or before it
pub data IsKnownTo (x : Running) (i : ℕ) (e : Issued) : Type 0 where
  InRun : e.run ≡ run_of x.first x.later (key_of e.lsa) → number_in e ≤ℤ kept_number x.state (key_of e.lsa) → IsKnownTo x i e
  BeforeRun : i < (run_of x.first x.later (key_of e.lsa)).name → IsKnownTo x i e

-- the facts that every world event keeps
pub record Facts (w : World) : Type 0 where
  -- each LSA in a database or a sent Update has the contents of an issued one
  pub database : (r : RouterId) (x : Running) (lsa : List ℕ) → router_at w r ≡ Some x → HasCopy x.state lsa → WasIssued w.issued (contents lsa)
  pub updates : (g : Datagram) (p : Meaning) (lsa : List ℕ) → Contains w.datagrams g → packet_of g.sent.bytes ≡ Some p → Contains (lsas_of p.body) lsa → WasIssued w.issued (contents lsa)
  -- the numbers issued in a run rise
  pub after : (i j : ℕ) (e f : Issued) → IssuedAt w.issued i e → IssuedAt w.issued j f → i < j → key_of e.lsa ≡ key_of f.lsa → IsAfter i e f
  pub run_begun : (i : ℕ) (e : Issued) → IssuedAt w.issued i e → e.run.name ≤ i
  pub above_base : (i : ℕ) (e : Issued) → IssuedAt w.issued i e → e.run.base <ℤ number_in e
  pub known : (r : RouterId) (x : Running) (i : ℕ) (e : Issued) → router_at w r ≡ Some x → IssuedAt w.issued i e → (key_of e.lsa).router ≡ r → IsKnownTo x i e
  pub begun : (r : RouterId) (x : Running) (key : LsaKey) → router_at w r ≡ Some x → (run_of x.first x.later key).name ≤ length w.issued
  pub kept_above : (r : RouterId) (x : Running) (key : LsaKey) → router_at w r ≡ Some x → (run_of x.first x.later key).base ≤ℤ kept_number x.state key
  -- each instance that a router can name, names in a packet or is asked for is in held
  pub router : (r : RouterId) (x : Running) → router_at w r ≡ Some x → x.state.router ≡ r
  pub names : (r : RouterId) (x : Running) (i : Instance) → router_at w r ≡ Some x → CanName x.state i → Contains w.held (record { router = r; instance = i })
  pub named : (g : Datagram) (p : Meaning) (i : Instance) → Contains w.datagrams g → packet_of g.sent.bytes ≡ Some p → Lists (headers_in_body p.body) i → Contains w.held (record { router = p.router; instance = i })
  pub asked : (r : RouterId) (x : Running) (l : ℕ) (q : RouterId) (i : Instance) → router_at w r ≡ Some x → Asks x.state l q i → Contains w.held (record { router = q; instance = i })
  -- each router has the table of its listing
  pub tables : (r : RouterId) (x : Running) → router_at w r ≡ Some x → HasItsTable x

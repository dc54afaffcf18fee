-- The logs of a world, and numbering runs.
use Rattle.std.specs.Prelude.{◌≡◌, ◌++◌, ℕ, List, None, Some, map, length, find, take, if◌then◌else◌}
use Rattle.ospf_base.specs.Keys.{same_key}
use Rattle.ospf_base.specs.declared.ids.Instance.{Instance}
use Rattle.ospf_base.specs.declared.ids.LsaKey.{LsaKey}
use Rattle.ospf_base.specs.declared.ids.RouterId.{RouterId}
use Rattle.ospf_area.specs.Outputs.{OutputsValue, SentValue}
use Rattle.ospf_world.specs.declared.logs.Datagram.{Datagram}
use Rattle.ospf_world.specs.declared.logs.Holding.{Holding}
use Rattle.ospf_world.specs.declared.logs.Issued.{Issued}
use Rattle.ospf_world.specs.declared.logs.Run.{Run}
use Rattle.ospf_lsa.specs.Lsa.{instance_of, key_of}
use Rattle.ospf_lsdb.specs.Moments.{among}
use Rattle.ospf_area.specs.Updates.Removal.{lowest_number}

-- all datagrams ever sent, all LSAs ever issued, and who ever installed, issued
-- or acknowledged which instance
pub record LogsValue : Type 0 where
  pub datagrams : List Datagram
  pub issued : List Issued
  pub held : List Holding

-- ---- runs

-- the run that a key is in: its later one, or else the first
unfoldable pub run_of : Run → List (LsaKey × Run) → LsaKey → Run
run_of first later key =
    elim (find (λ e. same_key e.0 key) later) [ None ↦ first | Some e ↦ e.1 ]

-- the runs of the keys that ended begin again, named by how many LSAs are issued by now
abbrev pub BeginAgain : ℕ → List LsaKey → List (LsaKey × Run) → List (LsaKey × Run) → Type 0
BeginAgain name ended later later' =
    (first : Run) (key : LsaKey)
    → run_of first later' key
    ≡ (if among ended key then record { name = name; base = lowest_number }
    else run_of first later key)

-- ---- what logs grow by

-- what a router sent, as a datagram of its own
abbrev pub sent_as_datagram : RouterId → SentValue → Datagram
sent_as_datagram r s = record { router = r; sent = s }

-- that a router holds an instance
abbrev pub held_by : RouterId → Instance → Holding
held_by r i = record { router = r; instance = i }

-- that a router holds the instance of an LSA
abbrev pub holdings_by : RouterId → List ℕ → Holding
holdings_by r lsa = record { router = r; instance = instance_of lsa }

-- that an LSA was issued, in the run of its key
abbrev pub issued_in : Run → List (LsaKey × Run) → List ℕ → Issued
issued_in first later lsa = record { lsa = lsa; run = run_of first later (key_of lsa) }

-- the logs grow by exactly these outputs of router r, whose keys are in these runs
pub record LogsTake (before after : LogsValue) (r : RouterId) (first : Run)
    (later : List (LsaKey × Run)) (out : OutputsValue) : Type 0 where
  pub datagrams : after.datagrams ≡ before.datagrams ++ map (sent_as_datagram r) out.sent
  pub issued : after.issued ≡ before.issued ++ map (issued_in first later) out.issued
  pub held :
      after.held ≡ before.held ++ (map (held_by r) out.taken ++ map (holdings_by r) out.issued)

-- the logs begin with what they were
pub record StillHave (before after : LogsValue) : Type 0 where
  pub datagrams : take (length before.datagrams) after.datagrams ≡ before.datagrams
  pub issued : take (length before.issued) after.issued ≡ before.issued
  pub held : take (length before.held) after.held ≡ before.held

-- Laws of what is wanted: each of its own key, the router's own, and one that can be made.
use Rattle.std.specs.Prelude.{◌≡◌, ◌≤◌, Bool, List, Some, length}
use Rattle.std.specs.List.{AllByRecursion}
use Rattle.ospf_base.specs.declared.ids.RouterId.{RouterId}
use Rattle.ospf_base.specs.declared.stub_network.StubNetwork.{StubNetwork}
use Rattle.ospf_area.specs.State.{LinkValue}
use Rattle.ospf_originate.specs.Wants.Made.{CanBeMade}
use Rattle.ospf_originate.specs.Wants.SetUp.{AreApart, AreSetUp, max_stubs}
use Rattle.ospf_originate.specs.Wants.Wanted.{wanted_lsas, wanted_key, wanted_of}

-- no two wanted LSAs are of one key: each is the one of its key
abbrev pub WantedAreOfTheirKeys : Type 0
WantedAreOfTheirKeys =
    (stub_router : Bool) (router : RouterId) (links : List LinkValue) (stubs : List StubNetwork)
    → AreApart links
    → AllByRecursion
    (λ w. wanted_of (wanted_lsas stub_router router links stubs) (wanted_key w) ≡ Some w)
    (wanted_lsas stub_router router links stubs)

-- all of them are the router's own
abbrev pub WantedAreOwn : Type 0
WantedAreOwn =
    (stub_router : Bool) (router : RouterId) (links : List LinkValue) (stubs : List StubNetwork)
    → AllByRecursion (λ w. (wanted_key w).router ≡ router)
    (wanted_lsas stub_router router links stubs)

-- a router can make the LSAs that it wants if its links are set up and it has few stub networks:
-- only lack of memory prevents it
abbrev pub WantedCanBeMade : Type 0
WantedCanBeMade =
    (stub_router : Bool) (router : RouterId) (links : List LinkValue) (stubs : List StubNetwork)
    → AreSetUp links → length stubs ≤ max_stubs
    → AllByRecursion CanBeMade (wanted_lsas stub_router router links stubs)

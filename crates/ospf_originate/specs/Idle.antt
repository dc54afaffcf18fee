-- States in which nothing is due of the router's own LSAs (RFC 2328, sections 12.4, 13.4 and 14.1).
use Rattle.std.specs.Prelude.{◌≡◌, ◌&&◌, ◌||◌, Bool, true, false, not, List, [], ◌∷◌, is_some}
use Rattle.std.specs.List.{list_all}
use Rattle.ospf_base.specs.declared.ids.LsaKey.{LsaKey}
use Rattle.ospf_area.specs.Numbers.{is_own}
use Rattle.ospf_area.specs.State.{AreaValue, LinkValue, database_entry, kept_number}
use Rattle.ospf_originate.specs.Actions.{unwanted_action, wanted_action}
use Rattle.ospf_originate.specs.Numbers.{waits}
use Rattle.ospf_originate.specs.Steps.{action_of, wants}
use Rattle.ospf_originate.specs.Wants.Wanted.{WantedValue, is_dr_of, network_of, own_links, wanted_key, wanted_of}
use Rattle.ospf_originate.specs.Wants.Wanted.WantedValue.{RouterLsa}
use Rattle.ospf_originate.specs.declared.action.OwnAction.{OwnAction}
use Rattle.ospf_originate.specs.declared.action.OwnAction.TheVariants.{Leave, Flush, Issue}

-- no self-originated LSA was heard in this step, and nothing is due of any key
pub record IsIdle (s : AreaValue) : Type 0 where
  pub unheard : s.heard ≡ []
  pub left : (key : LsaKey) → action_of s key ≡ Leave

-- ---- key by key, where none was heard

-- nothing is done of the key
abbrev pub is_left : OwnAction → Bool
is_left Leave = true
is_left Flush = false
is_left (Issue number) = false

-- nothing is due of an LSA that is wanted
unfoldable pub wanted_left : AreaValue → WantedValue → Bool
wanted_left s w =
    is_left
    (wanted_action w (database_entry s (wanted_key w)) false
    (waits s.tick s.numbering (wanted_key w)) (kept_number s (wanted_key w)))

-- nothing is due of a key of which none is wanted
unfoldable pub unwanted_left : AreaValue → LsaKey → Bool
unwanted_left s key = is_left (unwanted_action (database_entry s key) false (is_own s.router key))

-- nothing is due of a key, unless it is wanted
unfoldable pub key_left : AreaValue → LsaKey → Bool
key_left s key = unwanted_left s key || is_some (wanted_of (wants s) key)

-- the router-LSA that is wanted
abbrev pub own_router : AreaValue → WantedValue
own_router s = RouterLsa s.router (own_links s.stub_router s.links s.stubs)

-- nothing is due of the network-LSA of a link, if one is wanted
abbrev pub network_left : AreaValue → LinkValue → Bool
network_left s a = not (is_dr_of a) || wanted_left s (network_of s.router a)

-- none was heard
unfoldable pub none_heard : List LsaKey → Bool
none_heard [] = true
none_heard (key ∷ keys) = false

-- nothing is due of what is wanted, nor of what is numbered and not wanted, and none was heard
unfoldable pub is_quiet : AreaValue → Bool
is_quiet s =
    none_heard s.heard
    && (wanted_left s (own_router s)
    && (list_all (network_left s) s.links && list_all (λ n. key_left s n.key) s.numbering))

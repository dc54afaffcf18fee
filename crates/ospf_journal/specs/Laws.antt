-- The objects of a journal as values of JSON, and the law that they are these.
use Rattle.std.specs.Prelude.{◌≡◌, ℕ, List, codes}
use Rattle.serde_json.specs.Data.{Data, Members, member, no_members, number, object, string, unsigned}
use Rattle.serde_json.specs.Written.{compact_text}
use Rattle.ospf_base.specs.Text.{number_text, prefix_text}
use Rattle.ospf_base.specs.declared.ids.LsaKey.{LsaKey}
use Rattle.ospf_base.specs.declared.ids.RouterId.{RouterId}
use Rattle.ospf_graph.specs.Text.{hops_text}
use Rattle.ospf_neighbour.specs.Text.{state_text}
use Rattle.ospf_script.specs.Texts.{floor_text}
use Rattle.ospf_script.specs.Views.{lsa_kind_text}
use Rattle.ospf_router.specs.AreaStep.Text.{dropped_text}
use Rattle.ospf_journal.specs.Lines.{iface_text}
use Rattle.ospf_journal.specs.Objects.{journal_object}
use Rattle.ospf_journal.specs.declared.change.RouterChange.{RouterChange}
use Rattle.ospf_journal.specs.declared.change.RouterChange.TheVariants as change

-- a member whose value is a string, before others
abbrev pub text_member : List ℕ → List ℕ → Members → Members
text_member name text ms = member name (string text) ms

-- an own LSA, before other members
abbrev pub own_lsa_data : LsaKey → Members → Members
own_lsa_data key ms =
    text_member (codes "lsa") (lsa_kind_text key.kind)
    (text_member (codes "id") (number_text key.id) ms)

-- the members of what changed, the first of which names it
abbrev pub router_change_data : RouterChange → Members
router_change_data change.Started =
    text_member (codes "event") (codes "started") no_members
router_change_data change.Stopped =
    text_member (codes "event") (codes "stopped") no_members
router_change_data (change.Dropped d) =
    text_member (codes "event") (codes "dropped")
    (member (codes "link") (number (unsigned d.link))
    (text_member (codes "cause") (dropped_text d.cause)
    (text_member (codes "source") (number_text d.source.0) no_members)))
router_change_data (change.Neighbour link router before now) =
    text_member (codes "event") (codes "neighbour")
    (member (codes "link") (number (unsigned link))
    (text_member (codes "neighbour") (number_text router.0)
    (text_member (codes "before") (state_text before)
    (text_member (codes "now") (state_text now) no_members))))
router_change_data (change.Interface link before now) =
    text_member (codes "event") (codes "interface")
    (member (codes "link") (number (unsigned link))
    (text_member (codes "before") (iface_text before)
    (text_member (codes "now") (iface_text now.state)
    (text_member (codes "dr") (number_text now.dr.0)
    (text_member (codes "backup") (number_text now.backup.0) no_members)))))
router_change_data (change.Issued key n) =
    text_member (codes "event") (codes "issued")
    (own_lsa_data key (text_member (codes "number") (floor_text n) no_members))
router_change_data (change.Flushed key n) =
    text_member (codes "event") (codes "flushed")
    (own_lsa_data key (text_member (codes "number") (floor_text n) no_members))
router_change_data (change.Removed key) =
    text_member (codes "event") (codes "removed") (own_lsa_data key no_members)
router_change_data (change.Route route) =
    text_member (codes "event") (codes "route")
    (text_member (codes "prefix") (prefix_text route.prefix)
    (member (codes "cost") (number (unsigned route.cost))
    (text_member (codes "hops") (hops_text route.hops) no_members)))
router_change_data (change.NoRoute prefix) =
    text_member (codes "event") (codes "no route")
    (text_member (codes "prefix") (prefix_text prefix) no_members)

-- the object of a change of a router that has taken so many ticks
abbrev pub journal_data : ℕ → RouterId → RouterChange → Data
journal_data tick q change =
    object
    (member (codes "tick") (number (unsigned tick))
    (text_member (codes "router") (number_text q.0) (router_change_data change)))

-- the law: what is printed of a change as an object is JSON, with these members in this order
abbrev pub ObjectsAreJson : Type 0
ObjectsAreJson =
    (tick : ℕ) (q : RouterId) (change : RouterChange)
    → journal_object tick q change ≡ compact_text (journal_data tick q change)

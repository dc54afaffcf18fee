-- The LSAs of an area's database stay short.
use Rattle.std.proofs.Common.{◌≡◌, ◌+◌, ◌≤◌, inl, inr, ℕ, Option, Some, is_some, List, [], ◌∷◌, length, sym, ap, subst, arith, ◌∙◌}
use Rattle.std.specs.List.{AllByRecursion}
use Rattle.std.proofs.lemmas.List.{length-drop}
use Rattle.ospf_base.specs.Constants.{largest_lsa, max_age}
use Rattle.ospf_base.specs.Sums.{contents}
use Rattle.ospf_base.specs.declared.ids.LsaKey.{LsaKey}
use Rattle.ospf_lsa.specs.declared.header.LsaHeader.{LsaHeader}
use Rattle.ospf_lsdb.specs.Database.{entry_from, reached_at}
use Rattle.ospf_area.proofs.ShortLemmas.{short_aged, short_expired, short_installed, short_removed}
use Rattle.ospf_area.specs.Laws.{AreShort}
use Rattle.ospf_area.specs.Outputs.{OutputsValue}
use Rattle.ospf_area.specs.State.{AreaValue}
use Rattle.ospf_area.specs.declared.flooding.PacketSource.{PacketSource}
use Rattle.ospf_area.specs.Updates.Aging.{Flushes, TickAges}
use Rattle.ospf_area.specs.Updates.Laws.{IsShortLsa}
use Rattle.ospf_area.specs.Updates.Meets.{MeetsLsa, Stores, header_met}
use Rattle.ospf_area.proofs.Updates.Words.{RemovesAll, TakesSlices}
use Rattle.ospf_area.specs.Updates.Updates.{TakesSlice, TakesUpdate}
use Rattle.ospf_area.specs.Updates.Updates.TakesSlice.{Met, PassedOver}
use Rattle.ospf_area.proofs.Updates.CopyLemmas.{copies_become, copies_keep, copy_keeps}
use Rattle.ospf_area.proofs.Updates.MeetLemmas.{header_keeps, met_cases}
use Rattle.ospf_area.proofs.Updates.PassLemmas.{passed}

-- the database of another state is the same
same : (s t : AreaValue) → t.database ≡ s.database → AreShort s.database → AreShort t.database
same s t is short = subst AreShort (sym is) short

contents_short : (lsa : List ℕ) → IsShortLsa lsa → 2 + length (contents lsa) ≤ largest_lsa
contents_short lsa short = let left = length-drop 2 lsa in omega arith

pub store_short : (lsa : List ℕ) (from : Option PacketSource) (s t : AreaValue) → Stores lsa from s t → IsShortLsa lsa → AreShort s.database → AreShort t.database
unfolding entry_from
store_short lsa from s t stores short old = short_installed (entry_from lsa s.tick (is_some from)) s.database t.database stores.database (contents_short lsa short) old

pub met_short : (f : PacketSource) (lsa : List ℕ) (s : AreaValue) (o o' : OutputsValue) (t : AreaValue) → MeetsLsa f lsa s o o' t → IsShortLsa lsa → AreShort s.database → AreShort t.database
met_short f lsa s o o' t meets short old = elim (met_cases f lsa s o o' t meets) [
  | inl (stored, is) ↦ same is.mid t is.keeps.database (store_short lsa (Some f) s is.mid is.stores short old)
  | inr (other, keeps) ↦ same s t keeps.database old
]

slice_short : (f : PacketSource) (bytes : List ℕ) (s : AreaValue) (o o' : OutputsValue) (t : AreaValue) → TakesSlice f bytes s o o' t → IsShortLsa bytes → AreShort s.database → AreShort t.database
slice_short f bytes s o o' t (Met is mid so_far meets state outputs) short old = same mid t (ap (λ (x : AreaValue). x.database) state) (met_short f bytes s o so_far mid meets short old)
slice_short f bytes s o o' t (PassedOver not_lsa is outputs) short old = same s t (ap (λ (x : AreaValue). x.database) (passed s.passes_over f bytes s t is).state) old

slices_short : (f : PacketSource) (slices : List (List ℕ)) (s : AreaValue) (o o' : OutputsValue) (t : AreaValue) → TakesSlices f slices s o o' t → AllByRecursion IsShortLsa slices
    → AreShort s.database → AreShort t.database
slices_short f [] s o o' t is short old = same s t (ap (λ (x : AreaValue). x.database) is.state) old
slices_short f (bytes ∷ slices) s o o' t (mid, so_far, one, rest) short old =
    slices_short f slices mid so_far o' t rest short.1 (slice_short f bytes s o so_far mid one short.0 old)

pub update_short : (f : PacketSource) (slices : List (List ℕ)) (s : AreaValue) (o o' : OutputsValue) (t : AreaValue) → TakesUpdate f slices s o o' t → AllByRecursion IsShortLsa slices
    → AreShort s.database → AreShort t.database
update_short f slices s o o' t is short old = same is.mid t (ap (λ (x : AreaValue). x.database) is.state) (slices_short f slices s o is.so_far is.mid is.takes short old)

pub header_short : (f : PacketSource) (h : LsaHeader) (s : AreaValue) → AreShort s.database → AreShort (header_met f h s).database
header_short f h s old = same s (header_met f h s) (header_keeps f h s).database old

pub flush_short : (key : LsaKey) (s : AreaValue) (o o' : OutputsValue) (t : AreaValue) → Flushes key s o o' t → AreShort s.database → AreShort t.database
flush_short key s o o' t is old =
    same is.mid t (ap (λ (x : AreaValue). x.database) is.sends.state ∙ (copy_keeps key is.mid).database) (short_expired key s.database is.mid.database is.database old)

pub ages_short : (s : AreaValue) (o o' : OutputsValue) (t : AreaValue) → TickAges s o o' t → AreShort s.database → AreShort t.database
ages_short s o o' t is old =
    same is.mid t (ap (λ (x : AreaValue). x.database) (copies_become (reached_at max_age is.mid.database) is.mid t o o' is.sends).state ∙ (copies_keep (reached_at max_age is.mid.database) is.mid).database) (short_aged s.database is.mid.database is.database old)

pub removes_short : (keys : List LsaKey) (s : AreaValue) (o o' : OutputsValue) (t : AreaValue) → RemovesAll keys s o o' t → AreShort s.database → AreShort t.database
removes_short [] s o o' t is old = same s t (ap (λ (x : AreaValue). x.database) is.state) old
removes_short (key ∷ keys) s o o' t (mid, so_far, one, rest) old = removes_short keys mid so_far o' t rest (short_removed key s.database mid.database one.database old)

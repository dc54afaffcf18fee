-- Captures that grow by one datagram.
use Rattle.std.proofs.Common.{Bool, ◌≡◌, ◌==◌, ◌<◌, ◌≤◌, ◌+◌, ℕ, List, [], ◌∷◌, true, false, length, take, get_or, sym, ap, subst, ◌∙◌, arith}
use Rattle.std.specs.Prelude.{count_by, if◌then◌else◌, nat_le, unwrap_or}
use Rattle.std.specs.BTreeMap as tree
use Rattle.std.specs.Map.{lookup}
use Rattle.std.specs.Ordering.{nat_cmp}
use Rattle.std.proofs.lemmas.Bool.Decides.{nat_tests}
use Rattle.std.proofs.lemmas.List.{get_or-map, length-map}
use Rattle.std.proofs.lemmas.List.FromFn.{get_or-enumerate_from, length-enumerate_from}
use Rattle.ospf_base.specs.Constants.{ip_header}
use Rattle.ospf_base.specs.declared.ids.Addr.{Addr}
use Rattle.ospf_views.specs.RecordFiles.Datagram.{captured}
use Rattle.ospf_views.specs.RecordFiles.Ip.{largest_ip_packet}
use Rattle.ospf_views.specs.declared.records.moment.Moment.{Moment}
use Rattle.ospf_world.specs.declared.logs.Datagram.{Datagram}
use Rattle.ospf_views.specs.RecordFiles.Captures.{captured_at, is_tick_of, microsecond_of, numbered_datagrams, second_of, seconds, within_second}
use Rattle.ospf_views.specs.RecordFiles.Counts.{IsOneMoreOf, capped, count_in}
use Rattle.ospf_views.specs.RecordFiles.Stamps.{AreTicksRead, IsReadTo}
use Rattle.ospf_views.proofs.RecordFiles.CountFacts.{all_weaker, counts_more}
use Rattle.ospf_world.specs.declared.ticks.Ticked.{Ticked}

-- ---- one datagram

fits : (n : ℕ) → (largest_ip_packet < n → ⊥) → nat_le n largest_ip_packet ≡ true
fits n not = let low : n ≤ largest_ip_packet = omega (arith, not) in grind (arith, nat_tests)

too_long : (n : ℕ) → largest_ip_packet < n → nat_le n largest_ip_packet ≡ false
too_long n long = grind (arith, nat_tests)

pub is_kept : (at : Moment) (source destination : Addr) (bytes : List ℕ) (g : Datagram) → source ≡ g.sent.source → destination ≡ g.sent.destination → bytes ≡ g.sent.bytes → (largest_ip_packet < ip_header + length bytes → ⊥) →
    captured at source destination bytes ∷ [] ≡ captured_at at.seconds at.microseconds g
unfolding captured_at
is_kept at source destination bytes g from to are not =
    let one : captured at source destination bytes ∷ [] ≡ captured at g.sent.source g.sent.destination g.sent.bytes ∷ [] = λ i. captured at (from i) (to i) (are i) ∷ [] in
    let small : nat_le (ip_header + length g.sent.bytes) largest_ip_packet ≡ true = ap (λ (bs : List ℕ). nat_le (ip_header + length bs) largest_ip_packet) (sym are) ∙ fits (ip_header + length bytes) not in
    one ∙ sym (ap (λ (b : Bool). if b then captured at g.sent.source g.sent.destination g.sent.bytes ∷ [] else []) small)

pub is_left_out : (at : Moment) (bytes : List ℕ) (g : Datagram) → bytes ≡ g.sent.bytes → largest_ip_packet < ip_header + length bytes → captured_at at.seconds at.microseconds g ≡ []
unfolding captured_at
is_left_out at bytes g are long =
    let large : nat_le (ip_header + length g.sent.bytes) largest_ip_packet ≡ false = ap (λ (bs : List ℕ). nat_le (ip_header + length bs) largest_ip_packet) (sym are) ∙ too_long (ip_header + length bytes) long in
    ap (λ (b : Bool). if b then captured at g.sent.source g.sent.destination g.sent.bytes ∷ [] else []) large

-- ---- none yet

pub none_counted : (counts : tree.BTreeMap ℕ ℕ) → counts.entries ≡ [] → (k : ℕ) → count_in counts k ≡ capped 0
unfolding capped
none_counted counts none k = ap (λ es. unwrap_or (lookup (tree.is_at (nat_cmp k)) es) 0) none

-- ---- one more

module _ (ticks : List Ticked) (datagrams : List Datagram) (n : ℕ) (g : Datagram) (within : n < length datagrams) (is : g ≡ get_or datagrams n g) where
  there : n < length (numbered_datagrams datagrams)
  there = let h = length-enumerate_from 0 datagrams in omega (arith, h)

  at : get_or (numbered_datagrams datagrams) n (n, g) ≡ (n, g)
  at = get_or-enumerate_from 0 datagrams n (n, g) within ∙ (let zero_more : 0 + n ≡ n = omega arith in λ i. (zero_more i, sym is i))

  -- its second
  pub second_is : (read second : ℕ) (clocks : tree.BTreeMap ℕ ℕ) → IsReadTo ticks n read clocks → second ≡ count_in clocks g.router.0 → second ≡ second_of ticks (n, g)
  unfolding second_of
  second_is read second clocks r is =
      is ∙ r.is.counts g.router.0 ∙ ap (λ (ts : List Ticked). capped (count_by (is_tick_of g.router.0) ts)) (sym r.all)

  pub stamped_more : (second : ℕ) (before after : tree.BTreeMap ℕ ℕ) → second ≡ second_of ticks (n, g) → IsOneMoreOf second before after →
      ((k : ℕ) → count_in before k ≡ capped (count_by (λ s. s == k) (take n (seconds ticks datagrams)))) → (k : ℕ) → count_in after k ≡ capped (count_by (λ s. s == k) (take (n + 1) (seconds ticks datagrams)))
  stamped_more second before after is counted counts =
      let long : n < length (seconds ticks datagrams) = (let h = length-map (numbered_datagrams datagrams) (second_of ticks) in let t = there in omega (arith, h, t)) in
      let same : second ≡ get_or (seconds ticks datagrams) n 0 = is ∙ ap (second_of ticks) (sym at) ∙ sym (get_or-map (second_of ticks) (numbered_datagrams datagrams) n (n, g) 0 there) in
      counts_more (λ (s : ℕ). s) (seconds ticks datagrams) n 0 before after long (subst (λ (k : ℕ). IsOneMoreOf k before after) same counted) counts

capped_within : (n : ℕ) → within_second (capped n) ≡ within_second n
unfolding capped within_second
capped_within n = grind (arith, nat_tests)

-- its microsecond
pub microsecond_is : (ticks : List Ticked) (datagrams : List Datagram) (n : ℕ) (g : Datagram) (second before : ℕ) (stamped : tree.BTreeMap ℕ ℕ) → second ≡ second_of ticks (n, g) → before ≡ count_in stamped second →
    ((k : ℕ) → count_in stamped k ≡ capped (count_by (λ s. s == k) (take n (seconds ticks datagrams)))) → within_second before ≡ microsecond_of ticks datagrams (n, g)
unfolding microsecond_of
microsecond_is ticks datagrams n g second before stamped is count counts =
    ap within_second (count ∙ counts second) ∙ capped_within (count_by (λ s. s == second) (take n (seconds ticks datagrams)))
    ∙ ap (λ (k : ℕ). within_second (count_by (λ s. s == k) (take n (seconds ticks datagrams)))) is

-- ticks that came by one datagram came by the next
pub read_on : (ticks : List Ticked) (n read : ℕ) (clocks : tree.BTreeMap ℕ ℕ) → AreTicksRead ticks n read clocks → AreTicksRead ticks (n + 1) read clocks
read_on ticks n read clocks r = record {
  within = r.within;
  came = all_weaker (λ (t : Ticked). t.sent ≤ n) (λ (t : Ticked). t.sent ≤ n + 1) (take read ticks) (λ t le. omega (arith, le)) r.came;
  counts = r.counts;
}

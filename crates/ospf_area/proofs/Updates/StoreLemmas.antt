-- An LSA is stored in steps.
use Rattle.std.proofs.Common.{◌≡◌, ℤ, Bool, Option, is_some, List, ℕ, sym, ap, subst, ◌∙◌}
use Rattle.ospf_base.specs.declared.ids.LsaKey.{LsaKey}
use Rattle.ospf_lsa.specs.Header.{header_of}
use Rattle.ospf_lsa.specs.Lsa.{key_of}
use Rattle.ospf_lsa.specs.declared.header.LsaHeader.{LsaHeader}
use Rattle.ospf_lsdb.specs.Database as lsdb
use Rattle.ospf_lsdb.specs.Database.{Held, entry_from}
use Rattle.ospf_area.specs.Flooding.{flooded_links, goes_anywhere, released}
use Rattle.ospf_area.specs.Updates.Meets.{InstallsIn, Stores}
use Rattle.ospf_area.proofs.Updates.Words.{flooded_area}
use Rattle.ospf_area.specs.Numbers.{counts, marked}
use Rattle.ospf_area.specs.Sending.{context_of}
use Rattle.ospf_area.specs.State.{AreaValue, LinkValue}
use Rattle.ospf_area.specs.declared.flooding.PacketSource.{PacketSource}
use Rattle.ospf_area.specs.declared.sending.RouterContext.{RouterContext}
use Rattle.ospf_area.proofs.Words.{greatest_after}

abbrev releasing : LsaKey → AreaValue → AreaValue
releasing key s = record s { links = released key s.links }

abbrev putting : List Held → AreaValue → AreaValue
putting db s = record s { database = db }

abbrev marking : LsaKey → Bool → AreaValue → AreaValue
marking key went s = record s { sent = marked key went s.sent }

abbrev counting : LsaKey → ℤ → AreaValue → AreaValue
counting key number s = record s { numbering = counts key number s; max_seq = greatest_after key number s }

in_terms : (lsa : List ℕ) (from : Option PacketSource) (s a b c d e : AreaValue)
    → a ≡ releasing (key_of lsa) s → b ≡ flooded_area lsa from a → InstallsIn lsa (is_some from) b c
    → d ≡ marking (key_of lsa) (goes_anywhere (key_of lsa) (header_of lsa) from a.links) c → e ≡ counting (key_of lsa) (header_of lsa).number d
    → Stores lsa from s e
in_terms lsa from s a b c d e is_a is_b is_c is_d is_e =
    let key = key_of lsa in
    let number = (header_of lsa).number in
    let whole : e ≡ counting key number (marking key (goes_anywhere key (header_of lsa) from (released key s.links)) (putting c.database (flooded_area lsa from (releasing key s)))) =
    is_e ∙ ap (counting key number) (is_d
    ∙ ap (λ (x : AreaValue). marking key (goes_anywhere key (header_of lsa) from x.links) c) is_a
    ∙ ap (marking key (goes_anywhere key (header_of lsa) from (released key s.links))) (is_c.rest
    ∙ ap (putting c.database) (is_b ∙ ap (flooded_area lsa from) is_a))) in
    let db : e.database ≡ c.database = ap (λ (x : AreaValue). x.database) whole in
    let was : b.database ≡ s.database = ap (λ (x : AreaValue). x.database) (is_b ∙ ap (flooded_area lsa from) is_a) in
    let tick : b.tick ≡ s.tick = ap (λ (x : AreaValue). x.tick) (is_b ∙ ap (flooded_area lsa from) is_a) in
    record {
      database = subst (λ (x : List Held). lsdb.Installs (entry_from lsa s.tick (is_some from)) s.database x) (sym db)
          (subst (λ (x : List Held). lsdb.Installs (entry_from lsa s.tick (is_some from)) x c.database) was
          (subst (λ (t : ℕ). lsdb.Installs (entry_from lsa t (is_some from)) b.database c.database) tick is_c.database));
      rest = subst (λ (x : List Held). e ≡ counting key number (marking key (goes_anywhere key (header_of lsa) from (released key s.links)) (putting x (flooded_area lsa from (releasing key s))))) (sym db) whole;
    }

-- the steps by the views, the key, the header and the flags that the code has at hand
pub Stores-steps : (lsa : List ℕ) (from : Option PacketSource) (s a b c d e : AreaValue) (u v w : List ℕ) (key : LsaKey) (h : LsaHeader) (by_flooding went : Bool)
    → u ≡ lsa → v ≡ lsa → w ≡ lsa → key ≡ key_of u → h ≡ header_of v → by_flooding ≡ is_some from → went ≡ goes_anywhere (key_of w) (header_of w) from a.links
    → a ≡ record s { links = released key s.links } → b ≡ flooded_area w from a → InstallsIn lsa by_flooding b c
    → d ≡ record c { sent = marked key went c.sent } → e ≡ record d { numbering = counts key h.number d; max_seq = greatest_after key h.number d }
    → Stores lsa from s e
Stores-steps lsa from s a b c d e u v w key h by_flooding went is_u is_v is_w is_key is_h is_by is_went is_a is_b is_c is_d is_e =
    let the_key : key ≡ key_of lsa = is_key ∙ ap key_of is_u in
    let the_number : h.number ≡ (header_of lsa).number = ap (λ (x : LsaHeader). x.number) (is_h ∙ ap header_of is_v) in
    let the_flag : went ≡ goes_anywhere (key_of lsa) (header_of lsa) from a.links = is_went ∙ ap (λ (x : List ℕ). goes_anywhere (key_of x) (header_of x) from a.links) is_w in
    in_terms lsa from s a b c d e
    (is_a ∙ ap (λ (k : LsaKey). releasing k s) the_key)
    (is_b ∙ ap (λ (x : List ℕ). flooded_area x from a) is_w)
    (subst (λ (by : Bool). InstallsIn lsa by b c) is_by is_c)
    (is_d ∙ ap (λ (k : LsaKey). marking k went c) the_key ∙ ap (λ (x : Bool). marking (key_of lsa) x c) the_flag)
    (is_e ∙ ap (λ (k : LsaKey). counting k h.number d) the_key ∙ ap (λ (n : ℤ). counting (key_of lsa) n d) the_number)

-- the links of a router are flooded, of which the code has a view and its tick at hand
pub floods : (lsa : List ℕ) (from : Option PacketSource) (key : LsaKey) (s a view : AreaValue) (own : RouterContext) (now new : List LinkValue)
    → own ≡ context_of s → a ≡ record s { links = released key s.links } → view ≡ a → now ≡ view.links
    → new ≡ flooded_links (key_of lsa) (header_of lsa) from own.tick now → record view { links = new } ≡ flooded_area lsa from a
floods lsa from key s a view own now new is_own is_a is_view is_now is_new =
    let tick : own.tick ≡ a.tick = ap (λ (o : RouterContext). o.tick) is_own ∙ sym (ap (λ (x : AreaValue). x.tick) is_a) in
    let links : now ≡ a.links = is_now ∙ ap (λ (x : AreaValue). x.links) is_view in
    ap (λ (x : AreaValue). record x { links = new }) is_view
    ∙ ap (λ (ls : List LinkValue). record a { links = ls })
    (is_new ∙ ap (λ (t : ℕ). flooded_links (key_of lsa) (header_of lsa) from t now) tick ∙ ap (λ (ls : List LinkValue). flooded_links (key_of lsa) (header_of lsa) from a.tick ls) links)

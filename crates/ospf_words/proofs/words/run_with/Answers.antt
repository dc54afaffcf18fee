use Rattle.std.proofs.Common.{◌≡◌, ◌∙◌, ap, ◌<◌, ◌^◌, Bor, ℕ, List, sym, refl, subst, codes, false, inl, inr, true, Some, None, option_map, string_bytes}
use Rattle.std.specs.Str.Parse.{ParsesUnsigned, ExplainsUnsignedError, HasUnsignedDigitsIfOk}
use Rattle.clap.specs.Words.{found_of, one_of, rows_of}
use Rattle.clap.proofs.WalkLemmas.{one_text-rows}
use Rattle.ospf_words.specs.Job.{IsFaultOfValue}
use Rattle.ospf_words.specs.Unasked.{IsNoAddress, IsWrongValue}
use Rattle.ospf_words.specs.Words.{IsAddressIfAny, IsFlag}
use Rattle.ospf_words.proofs.WordLemmas.{err_kept, false_unless, no_number_read, number_if_any, number_read, texts_of, value_weaker, wrong_lookup}
use Rattle.ospf_words.proofs.words.run_with.Goals as goal

pub returns-in_default-clause-none : goal.returns-in_default-clause-none
returns-in_default-clause-none c =
    let found = found_of c.args.values.now in
    inl (no_number_read (λ bs r. ParsesUnsigned 64 10 bs r × ExplainsUnsignedError 10 bs r × HasUnsignedDigitsIfOk bs r)
    (λ t e n h number small. h.0 (number.0, subst (λ v. v < 2 ^ 64) (sym number.1) small)) (one_of (codes "tick") (rows_of found)) None
    (λ t at. c.in_default.ensures.value t (one_text-rows found (codes "tick") ∙ at)) refl)

pub returns-in_default-all_of-clause-none : goal.returns-in_default-all_of-clause-none
returns-in_default-all_of-clause-none c =
    let found = found_of c.args.values.now in
    inr (inl (sym c.in_default-all_of.ensures))

pub returns-then-is_json_alone-clause-none : goal.returns-then-is_json_alone-clause-none
returns-then-is_json_alone-clause-none c =
    let found = found_of c.args.values.now in
    let alone = c.is_json_alone.ensures.0 c.if-is_json_alone.true in
    let json : IsFlag (one_of (codes "json") (rows_of found)) c.has_flag-json.result = c.has_flag-json.ensures in
    let no_log = sym (c.in_ok-log.ensures ∙ c.word_of-4.ensures) ∙ ap (option_map string_bytes) alone.1 in
    let no_lsas = sym (c.in_ok-log_lsas.ensures ∙ c.word_of-5.ensures) ∙ ap (option_map string_bytes) alone.2 in
    inr (inr ((rw alone.0 at json, no_log), no_lsas))

pub returns-in_err-lookup-clause-fault : goal.returns-in_err-lookup-clause-fault
returns-in_err-lookup-clause-fault c =
    let found = found_of c.args.values.now in
    let rows = rows_of found in
    let wrong = IsFaultOfValue (IsWrongValue (Some (codes "run", rows))) in
    err_kept c.from_residual-in_err-lookup.result (λ f. f ≡ c.in_err-lookup.field-0.0) wrong c.from_residual-in_err-lookup.ensures.1
    (λ f is. subst wrong (sym is) (value_weaker (λ w. (option_map (λ (q : Bor (List ℕ)). q.now) c.word_of.result ≡ Some w) × IsNoAddress w) (IsWrongValue (Some (codes "run", rows))) c.in_err-lookup.field-0.0
    (λ w h. wrong_lookup rows w (sym c.word_of.ensures ∙ h.0) h.1) c.in_err-lookup.ensures.fault))

pub returns-clause-some : goal.returns-clause-some
returns-clause-some c =
    let found = found_of c.args.values.now in
    let rows = rows_of found in
    let tick = number_read (λ bs r. ParsesUnsigned 64 10 bs r × ExplainsUnsignedError 10 bs r × HasUnsignedDigitsIfOk bs r) (λ t n h. (h.0.0.0, sym h.0.1))
    (one_of (codes "tick") rows) c.get_one.result c.in-Some.milliseconds (λ e. c.get_one.ensures.none (one_text-rows found (codes "tick") ∙ e))
    (λ t at. c.get_one.ensures.value t (one_text-rows found (codes "tick") ∙ at)) c.in-Some.is in (
      record {
        ticks = c.requires;
        tick_text = tick.0;
        has_tick = tick.1;
        tick = tick.2;
        texts = texts_of c.in-Some-all_of.files.now;
        has_files = sym c.in-Some-all_of.ensures;
        files = c.in_ok-files.ensures;
        lookup = subst (λ o. IsAddressIfAny o c.in_ok-lookup.lookup) (c.word_of.ensures) c.in_ok-lookup.ensures.value;
        floor = c.in_ok-floor.ensures ∙ c.word_of-2.ensures;
        pcap = c.in_ok-pcap.ensures ∙ c.word_of-3.ensures;
        log = c.in_ok-log.ensures ∙ c.word_of-4.ensures;
        log_lsas = c.in_ok-log_lsas.ensures ∙ c.word_of-5.ensures;
        every = number_if_any (λ bs r. ParsesUnsigned 64 10 bs r × ExplainsUnsignedError 10 bs r × HasUnsignedDigitsIfOk bs r)
            (λ t n h. (h.0.0.0, sym h.0.1)) (λ t e n h number small. h.0 (number.0, subst (λ v. v < 2 ^ 64) (sym number.1) small))
            (one_of (codes "every") rows) c.get_one-every.result (λ e. c.get_one-every.ensures.none (one_text-rows found (codes "every") ∙ e))
            (λ t at. c.get_one-every.ensures.value t (one_text-rows found (codes "every") ∙ at));
        until_eof = c.has_flag-until_eof.ensures;
        neighbours = c.has_flag-neighbours.ensures;
        listing = c.has_flag-listing.ensures;
        lsdb = c.has_flag-lsdb.ensures;
        drops = c.has_flag-drops.ensures;
        json = c.has_flag-json.ensures;
        apart = λ no_log no_lsas. false_unless c.has_flag-json.result
            (λ is. let wrong : true ≡ false = sym (c.is_json_alone.ensures.1 (is, no_log, no_lsas)) ∙ c.if-is_json_alone.false in cc);
      },
      refl,
    )

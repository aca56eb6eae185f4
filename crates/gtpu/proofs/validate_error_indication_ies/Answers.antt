-- `gtpu::validate_error_indication_ies` meets its contract: the tunnel is that of what was seen, where nothing is left.
use Rattle.std.proofs.Common.{◌≡◌, ◌<◌, ℕ, sym, ap, ◌∙◌, Bool, true, false, List, length, Err, Bor, rules, arith}
use Rattle.std.specs.Prelude.{Option, Some, None, ◌==◌}
use Rattle.std.specs.Option.{option_copied, ok_or}
use borrow.Author.Tests.{eqb-true, eqb-false}
use Rattle.error.specs.Answer.{number_of}
use Rattle.error.specs.Outcome.{refused, gives}
use Rattle.error.specs.declared.Refusal.{Refusal}
use Rattle.gtpu.specs.Firsts.{Firsts, firsts_from}
use Rattle.gtpu.specs.Indication.{indication_of}
use Rattle.gtpu.proofs.Firsts.{firsts, at_end, indication_at, teid_whole, peer_whole, refuses_list, teid_missing, peer_missing, both_found}
use Rattle.gtpu.proofs.validate_error_indication_ies.Goals as goal

ended : (payload rest : List ℕ) (f : Firsts) (empty : Bool) → firsts_from f rest ≡ firsts_from (firsts None None) payload → empty ≡ (length rest == 0) → empty ≡ true
    → gives f ≡ firsts_from (firsts None None) payload
ended payload rest f empty is e g = sym (at_end f rest (eqb-true _ _ (sym e ∙ g))) ∙ is

filled : (rest : List ℕ) (empty : Bool) → empty ≡ (length rest == 0) → empty ≡ false → 0 < length rest
filled rest empty is e = let some : length rest ≡ 0 → ⊥ = eqb-false _ _ (sym is ∙ e) in omega arith

-- Where nothing was seen, the error is the one that was asked for.
missed : (payload : List ℕ) (seen : Option (Bor (List ℕ))) (e r : Refusal) → Err e ≡ ok_or seen r → seen ≡ None → refused (number_of r) ≡ indication_of payload
    → refused (number_of e) ≡ indication_of payload
missed payload None e r h g missing = let same : e ≡ r = cc in rw same missing
missed payload (Some element) e r h g missing = cc

pub returns-in_err-judge_element : goal.returns-in_err-judge_element
returns-in_err-judge_element c =
    let refuses = indication_at c.args.payload.now _ (refuses_list _ _ _ (filled _ _ c.is_empty.ensures c.loop-seen-test.true) c.in_err-judge_element.ensures ∙ c.loop-seen.invariant) in
    search (rules, refuses)

pub returns-in_err-teid_data : goal.returns-in_err-teid_data
returns-in_err-teid_data c =
    let found = ended c.args.payload.now _ _ _ c.loop-seen.invariant c.is_empty.ensures c.loop-seen-test.false in
    let missing = teid_missing c.args.payload.now _ found (ap option_copied c.in_err-teid_data.ensures.ok_part) in
    let refuses = missed c.args.payload.now _ _ _ c.in_err-teid_data.ensures.value c.in_err-teid_data.ensures.ok_part missing in
    search (rules, refuses)

pub returns-in_err-peer_address : goal.returns-in_err-peer_address
returns-in_err-peer_address c =
    let found = ended c.args.payload.now _ _ _ c.loop-seen.invariant c.is_empty.ensures c.loop-seen-test.false in
    let missing = peer_missing c.args.payload.now _ found _ (ap option_copied c.in_ok-teid_data.ensures.ok_part) (ap option_copied c.in_err-peer_address.ensures.ok_part) in
    let refuses = missed c.args.payload.now _ _ _ c.in_err-peer_address.ensures.value c.in_err-peer_address.ensures.ok_part missing in
    search (rules, refuses)

pub teid_in-requires : goal.teid_in-requires
teid_in-requires c =
    let found = ended c.args.payload.now _ _ _ c.loop-seen.invariant c.is_empty.ensures c.loop-seen-test.false in
    teid_whole c.args.payload.now _ found _ (ap option_copied c.in_ok-teid_data.ensures.ok_part)

pub version_in-requires : goal.version_in-requires
version_in-requires c =
    let found = ended c.args.payload.now _ _ _ c.loop-seen.invariant c.is_empty.ensures c.loop-seen-test.false in
    peer_whole c.args.payload.now _ found _ (ap option_copied c.in_ok-peer_address.ensures.ok_part)

pub address_in-requires : goal.address_in-requires
address_in-requires c =
    let found = ended c.args.payload.now _ _ _ c.loop-seen.invariant c.is_empty.ensures c.loop-seen-test.false in
    peer_whole c.args.payload.now _ found _ (ap option_copied c.in_ok-peer_address.ensures.ok_part)

pub returns : goal.returns
returns c =
    let found = ended c.args.payload.now _ _ _ c.loop-seen.invariant c.is_empty.ensures c.loop-seen-test.false in
    let both = both_found c.args.payload.now _ found _ (ap option_copied c.in_ok-teid_data.ensures.ok_part) _ (ap option_copied c.in_ok-peer_address.ensures.ok_part) in
    rw (c.teid_in.ensures, c.version_in.ensures, c.address_in.ensures) both

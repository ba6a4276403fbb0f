-- Each imitation refuted: the promise has one outcome, and it is computed to be another than the imitation's.
use mathlib.Core.Path.{◌≡◌, refl, sym, ap, ◌∙◌, subst}
use mathlib.Core.Bool.{true}
use mathlib.Core.List.{List, [], ◌∷◌, ◌++◌}
use Prim.Native.Nat.{ℕ, ◌≤◌}
use native.Mathlib.Omega.{arith}
use lib.ListN.{length, get_or, take, length-replicate}
use Rattle.syntax.specs.Limits.{result_bytes}
use Rattle.syntax.specs.Policy.{Policy, Request}
use Rattle.held.specs.Held.{any_of}
use Rattle.policy.specs.Reading.{Outcome, refused, known, policy_rules, record_rules, Says}
use Rattle.policy.specs.declared.refusals.Refusal.{Refusal}
use Rattle.policy.proofs.Laws.Reading.{says_unique}
use Rattle.decision.specs.Decision.{decide}
use Rattle.decide.specs.Operations.{Decides, decided}
use Rattle.decision.specs.declared.deciding.Decision.{Decision}
use Rattle.decide.proofs.Laws.Operations.{decides_unique}
use Rattle.writing.specs.WrittenForm.{written_policy}
use Rattle.restate.specs.Operations.{handed}
use Rattle.restate.proofs.Laws.Handing.{handed_whole}
use Rattle.candidates.specs.Candidates.{itself}
use Rattle.candidates.specs.Rows.{content_of}
use Rattle.rooms.specs.Rooms.{slots, charges, fed, met}
use Rattle.refined.specs.Finishing.{refined_policy, has_allow}
use Rattle.refine.specs.Operations.{done, Feeds, Joins}
use Rattle.refine.specs.Operations as O
use Rattle.refine.proofs.Laws.Held.{fed_denied}
use Rattle.demands.specs.Logs.{Bytes, empty_room, Comes}
use Rattle.demands.specs.Logs as L
use Rattle.rooms.specs.Rooms.{row_at}
use Rattle.demands.specs.Trials.{bucket}
use Rattle.demands.specs.Imitations.{wide, guarded, starred, wide_text, guarded_text, asks_a, asks_b, asks_star}
use Rattle.demands.specs.Imitations.{Leaves, output, RefusesAlways, OneDecision, ReturnsOriginal, FixedPolicy}
use Rattle.demands.specs.Imitations.{DoesNothing, FirstEntryOnly, FirstRecordOnly, ChargesDenied, KeepsOneSide}
use Rattle.demands.specs.Imitations.{CutInBytes, StarBare, Finished}
use Rattle.demands.proofs.Laws.Again.{finish_again}
use Rattle.demands.proofs.Laws.ImitationRooms.{nothing_fed, fed_is, met_is, laid_is, finish_lays, written_at}
use Rattle.demands.proofs.Laws.ImitationInputs.{gets, says, two_rows, exactly, feeding, narrowed, rows, four_rows}
use Rattle.demands.proofs.Laws.ImitationInputs.{decisions, bytes}
use Rattle.demands.proofs.Laws.ImitationLeft.{behind, further, left_a, left_b, left_star, left_both, left_seven}
use Rattle.demands.proofs.Laws.ImitationLeft.{not_empty, not_single, second_content, second_size, cut_size}
use Rattle.demands.proofs.Laws.ImitationLeft.{third_content, fourth_content, fourth_mark}

never : {A B : Type 0} {f : Refusal} {a : A} → ◌≡◌ {A = Outcome A} (refused f) (known a) → B
never e = let y : ◌≡◌ {A = ℕ} 0 1 = cc in absurd (omega arith)

came : {policy asked : Bytes} {room : List ℕ} → Leaves policy (asked ∷ []) room → Comes policy (asked ∷ []) room
came w = L.walk w

-- ---- Feed

alone : {asked : Bytes} {x : Outcome Decision} → Feeds wide_text asked empty_room x empty_room
    → Leaves wide_text (asked ∷ []) empty_room
alone f = L.fed f L.walked

pub does_nothing : DoesNothing
does_nothing x f = not_empty (exactly (97 ∷ [])) (left_a (alone f))

pub first_record_only : FirstRecordOnly
first_record_only room w x f =
    not_single (bucket ++ (97 ∷ []))
    (sym (left_a w) ∙ (fed_is says.says_wide (came w) says.says_b f).1
    ∙ ap (feeding (98 ∷ [])) (left_a w) ∙ (rows behind).then_b)

known_one : {p q : Policy} → Says policy_rules guarded_text (known p) → Says policy_rules guarded_text (known q) → p ≡ q
known_one {p} {q} a b = let e = says_unique policy_rules guarded_text (known p) (known q) a b in cc

asked_one : {p q : Request} → Says record_rules asks_b (known p) → Says record_rules asks_b (known q) → p ≡ q
asked_one {p} {q} a b = let e = says_unique record_rules asks_b (known p) (known q) a b in cc

stays : {room after : List ℕ} {x : Outcome Decision} → Feeds guarded_text asks_b room x after → after ≡ room
stays (O.no_room e) = refl
stays (O.no_policy e a) = refl
stays (O.no_content e a n) = refl
stays (O.no_record e a n b) = refl
stays {room} (O.feeds {p = p} {r = r} e a n b) =
    ap (λ (q : Policy). fed (slots q) (charges q r) room) (known_one a says.says_guarded)
    ∙ ap (λ (q : Request). fed (slots guarded) (charges guarded q) room) (asked_one b says.says_b)
    ∙ sym (fed_denied guarded (gets (98 ∷ [])) room decisions.denies_b)

pub charges_denied : ChargesDenied
charges_denied =
    record {
      stays = λ room after x f. stays f;
      else_charged = λ x f. not_empty (exactly (98 ∷ [])) (left_b (alone f));
      denied = subst (λ (d : Decision). Decides guarded_text asks_b (known d)) decisions.denies_b
          (decided says.says_guarded says.says_b);
    }

-- ---- Decide

decided_as : {asked : Bytes} {q : Request} {d e : Decision} → Says record_rules asked (known q) → decide guarded q ≡ e
    → Decides guarded_text asked (known d) → d ≡ e
decided_as {asked} {q} {d} {e} b i h =
    let z = decides_unique guarded_text asked (known d) (known (decide guarded q)) h (decided says.says_guarded b) in
    let y : d ≡ decide guarded q = cc in
    y ∙ i

pub one_decision : OneDecision
one_decision d h g =
    let e = sym (decided_as says.says_a decisions.allows_a h)
    ∙ decided_as says.says_b decisions.denies_b g in
    let z : ◌≡◌ {A = ℕ} 0 1 = cc in
    absurd (omega arith)

-- ---- Join

pub keeps_one_side : KeepsOneSide
keeps_one_side =
    record {
      mine = λ room other v w f. not_single (bucket ++ (97 ∷ [])) (sym (left_a v) ∙ joined room other v w f);
      theirs = λ room other v w f. not_single (bucket ++ (98 ∷ [])) (sym (left_b w) ∙ joined room other v w f);
    }
  where
    joined : (room other : List ℕ) {after : List ℕ} → Leaves wide_text (asks_a ∷ []) room
        → Leaves wide_text (asks_b ∷ []) other → Joins wide_text room other (known done) after
        → after ≡ two_rows itself behind
    joined room other v w f =
        (met_is says.says_wide (came v) (came w) f).1
        ∙ ap (λ (l : List ℕ). met (slots wide) l other) (left_a v)
        ∙ ap (met (slots wide) (two_rows (exactly (97 ∷ [])) behind)) (left_b w) ∙ (rows behind).met_ab

-- ---- rows

pub cut_in_bytes : CutInBytes
cut_in_bytes room w =
    record {
      shared = ap (λ (l : List ℕ). content_of (row_at 1 l)) (left_both w) ∙ second_content behind;
      not_cut = λ e.
          let n = ap (λ (l : List ℕ). get_or (row_at 1 l) 1 0) (sym (left_both w)) ∙ ap (λ (l : List ℕ). get_or l 1 0) e in
          absurd (omega (arith, n, second_size behind, cut_size));
    }

pub first_entry_only : FirstEntryOnly
first_entry_only room w =
    record {
      first = ap (λ (l : List ℕ). content_of (row_at 2 l)) (left_seven w) ∙ third_content further;
      second = ap (λ (l : List ℕ). content_of (row_at 3 l)) (left_seven w) ∙ fourth_content further;
      not_zeros = λ e.
          let n : get_or (row_at 3 (four_rows further)) 0 0 ≡ 0
          = ap (λ (l : List ℕ). get_or (row_at 3 l) 0 0) (sym (left_seven w)) ∙ ap (λ (l : List ℕ). get_or l 0 0) e in
          absurd (omega (arith, n, fourth_mark further));
    }

-- ---- Finish

refined_a : {room : List ℕ} → Leaves wide_text (asks_a ∷ []) room → refined_policy wide room ≡ narrowed (97 ∷ [])
refined_a w = ap (refined_policy wide) (left_a w) ∙ (rows behind).refined_a

refined_b : {room : List ℕ} → Leaves wide_text (asks_b ∷ []) room → refined_policy wide room ≡ narrowed (98 ∷ [])
refined_b w = ap (refined_policy wide) (left_b w) ∙ (rows behind).refined_b

refined_star : {room : List ℕ} → Leaves wide_text (asks_star ∷ []) room
    → refined_policy wide room ≡ narrowed (97 ∷ 42 ∷ 98 ∷ [])
refined_star w = ap (refined_policy wide) (left_star w) ∙ (rows behind).refined_star

narrowed_allows : (w : List ℕ) → has_allow (narrowed w) ≡ true
unfolding any_of
narrowed_allows w = refl

pub returns_original : ReturnsOriginal
returns_original room w out after n f b =
    let r = narrowed (97 ∷ []) in
    let l = finish_lays r says.says_wide (came w) (refined_a w) (narrowed_allows (97 ∷ [])) f in
    let e = written_at (written_policy r) wide_text out l.enough
    (ap (take (length wide_text)) (sym l.is) ∙ b) 69 (omega (arith, bytes.long_a))
    (omega (arith, bytes.long_wide)) in
    absurd (omega (arith, e, bytes.a_at, bytes.wide_at))

pub star_bare : StarBare
star_bare room w out after n f b =
    let r = narrowed (97 ∷ 42 ∷ 98 ∷ []) in
    let l = finish_lays r says.says_wide (came w) (refined_star w) (narrowed_allows (97 ∷ 42 ∷ 98 ∷ [])) f in
    let e = written_at (written_policy r) (written_policy starred) out l.enough
    (ap (take (length (written_policy starred))) (sym l.is) ∙ b) 108 (omega (arith, bytes.long_star))
    (omega (arith, bytes.long_starred)) in
    absurd (omega (arith, e, bytes.star_at, bytes.starred_at))

pub fixed_policy : FixedPolicy
fixed_policy room other v w out lent after behind n m f g bs i j =
    let a = subst (λ (s : Bytes). Says policy_rules s (known (refined_policy wide room))) i
    (finish_again wide_text out after room n wide says.says_wide f) in
    let b = subst (λ (s : Bytes). Says policy_rules s (known (refined_policy wide other))) j
    (finish_again wide_text lent behind other m wide says.says_wide g) in
    let e = says_unique policy_rules bs (known (refined_policy wide room)) (known (refined_policy wide other)) a b in
    let q : refined_policy wide room ≡ refined_policy wide other = cc in
    let z = ap (λ (p : Policy). get_or (written_policy p) 107 0) (sym (refined_a v) ∙ q ∙ refined_b w) in
    absurd (omega (arith, z, bytes.a_last, bytes.b_last))

-- ---- refusals

output_long : length output ≡ result_bytes
unfolding output
output_long = length-replicate {A = ℕ} result_bytes 0

finishes_on :
    {asked : Bytes} (w : List ℕ)
    → ((room : List ℕ) → Leaves wide_text (asked ∷ []) room → refined_policy wide room ≡ narrowed w)
    → length (written_policy (narrowed w)) ≤ result_bytes → Finished asked
finishes_on w is short room l f after h =
    let e = laid_is says.says_wide (came l) (ap has_allow (is room l) ∙ narrowed_allows w) h
    ∙ ap (λ (p : Policy). handed (written_policy p) output) (is room l)
    ∙ sym (handed_whole (written_policy (narrowed w)) output short (omega (arith, short, output_long))) in
    never (ap (λ (z : Outcome ℕ × List ℕ). z.0) e)

pub refuses_always : RefusesAlways
refuses_always =
    record {
      decide = λ f h. never (decides_unique guarded_text asks_a (refused f) (known (decide guarded (gets (97 ∷ [])))) h
          (decided says.says_guarded says.says_a));
      feed = λ f after h. never (fed_is says.says_wide nothing_fed says.says_a h).0;
      join = λ room other v w f after h. never (met_is says.says_wide (came v) (came w) h).0;
      finish = finishes_on (97 ∷ []) (λ room w. refined_a w) (omega (arith, bytes.long_a));
      finish_b = finishes_on (98 ∷ []) (λ room w. refined_b w) (omega (arith, bytes.long_b));
      finish_star = finishes_on (97 ∷ 42 ∷ 98 ∷ []) (λ room w. refined_star w) (omega (arith, bytes.long_star));
    }

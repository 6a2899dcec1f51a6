-- After every history, each user who is present and does not lag lists those who are present.
use Rattle.std.proofs.Common.{◌≡◌, ◌∙◌, sym, ap, ap₂, refl, subst, ℕ, Some, ◌+◌, ◌<◌, ◌≤◌, Bool, true, false, not, ◌&&◌, ◌==◌, List, [], ◌∷◌, ◌++◌, append-nil, map, filter, fold, length, cond}
use Rattle.std.proofs.Math.Bool.{and-true}
use Rattle.std.specs.Prelude.{if◌then◌else◌}
use Rattle.adc_base32.specs.Sids.{sid_text}
use Rattle.hub_rules.specs.Shares.{lags_with, owed_with}
use Rattle.hub_laws.proofs.Words.{ConnState, AllByRecursion, Call, Configured, Effect, Entry, Facts, Field, Join, Line, Listed, SenderView, Quit, Sound, Stage, Take, happens-parts}
use Rattle.hub_laws.proofs.Words.{about_parts, after, departure, effect_of_line, enters, eq-eqb, eqb-true, facts, false≢true, fields_after, happens, has, has_feature, has_joins, has_place}
use Rattle.hub_laws.proofs.Words.{is_present, is_removed, line_of, line_unless_empty, menu_line, most_users, newcomer, next_sid, not-over, own_of, owes, prepared_line, present_parts, quit_line}
use Rattle.hub_laws.proofs.Words.{removed_by, share, sid, sids_are_given, sids_differ, sight_of, sound_of, stage_after, take-facts, taken_by, ucmd, user_of, with_connection, without_connection}
use Rattle.hub_laws.proofs.Words.{absent-newcomer, fold-append, key_of_points, removal_line, user_called}
use Rattle.hub_rules.specs.Configured.{ConfiguredEntry}
use Rattle.hub_rules.specs.Texts.{update_line}
use Rattle.hub_rules.specs.declared.history.Reply.TheVariants.{Left}
use Rattle.adc_base32.specs.Sids.{sid_count}
use Rattle.hub_laws.specs.Lists.{updated_listing}
use Rattle.hub_laws.proofs.Welcome.{line_by}
use Rattle.hub_laws.proofs.Words.stages
use Rattle.hub_laws.specs.Lists.{AllListTheSame, Listing, heard, list_after}
use Rattle.hub_laws.proofs.Fields.{told_of_user}
use Rattle.hub_laws.proofs.UserLists.{Differing, Named, after-more, after-none, all-kept, entries, entry_of, filter-same, has-entries, listed-last, map-append, map-same, others-heard, renewed, spelt-same, updated-entries, welcomed}
use Rattle.hub_laws.proofs.UserLists.{without-entries}
use Rattle.hub_laws.proofs.Others.{AreOthers, IsEntry, IsFarewell, IsRemoval, IsRevision, IsStill, Tells, entry, is_early, leaves, line-tells, nobody, other-menu, removal_of, revision_of}
use Rattle.hub_laws.proofs.Outsiders.{owes-absent}
use Rattle.hub_laws.proofs.Pieces.{IsTold, quit-heard, removal-heard, update-heard, user-heard}
use Rattle.hub_laws.proofs.Removals.{found-here}
use Rattle.hub_laws.proofs.ListEffects.{grown, before-early, before-present, chosen-same, early-absent, early-open, entered-is, entered-late, falls-early, falls-present, gone-present, next-present, no-length, not-first, others-if, owes-others, owes-own, owes-to-all, owes-to-others, owes-to-sender, renewed-as, renewed-none, second-of}

-- ---- what a call is to do to the list of connection d, where it owes d this share

record Step (about after : ℕ → ConnState) (present present_then : List ℕ) (d : ℕ) (share : List (List ℕ)) : Type 0 where
  here : is_present (after d).stage ≡ true → is_present (about d).stage ≡ true → fold heard (entries about present) share ≡ entries after present_then
  enters : is_present (after d).stage ≡ true → is_present (about d).stage ≡ false → (is_early (about d).stage ≡ true) × (fold heard [] share ≡ entries after present_then)
  early : is_early (after d).stage ≡ true → (is_early (about d).stage ≡ true) × (fold heard [] share ≡ [])

abbrev StepBy : Facts → ℕ → Effect → ℕ → Type 0
StepBy f c effect d = Step f.about (about_parts c effect f.about) f.present (present_parts c effect f.about f.present) d (owes (d == c) effect (f.about d))

-- ---- the connections of a hub

module _ (setup : Configured) (hash : List ℕ → List ℕ) (h : List Entry) (small : setup.plain.max_users ≤ most_users) where
  abbrev f : Facts
  f = facts setup hash h

  sound : Sound f
  sound = sound_of setup hash h

  present-stage : (x : ℕ) → has x f.present ≡ true → is_present (f.about x).stage ≡ true
  present-stage x there = sym (sound.entered x) ∙ there

  present-open : (x : ℕ) → has x f.present ≡ true → has x f.opened ≡ true
  present-open x there = sound.are_open x (not-over (f.about x).stage (present-stage x there))

  absent-from : (x : ℕ) → is_present (f.about x).stage ≡ false → has x f.present ≡ false
  absent-from x absent = sound.entered x ∙ absent

  by-number : (x y : ℕ) (equal same : Bool) → has x f.opened ≡ true → has y f.opened ≡ true → ((f.about x).sender.sid == (f.about y).sender.sid) ≡ equal → (x == y) ≡ same → equal ≡ same
  by-number x y equal true open-x open-y is same = sym is ∙ eq-eqb _ _ (ap (λ z. (f.about z).sender.sid) (eqb-true x y same))
  by-number x y true false open-x open-y is same =
      absurd (false≢true (sym same ∙ eq-eqb x y (sids_differ setup hash h small x y open-x open-y (eqb-true (f.about x).sender.sid (f.about y).sender.sid is))))
  by-number x y false false open-x open-y is same = refl

  differ : Differing f.about f.opened
  differ x y open-x open-y =
      spelt-same (f.about x).sender.sid (f.about y).sender.sid (sids_are_given setup hash h small x open-x).1 (sids_are_given setup hash h small y open-y).1
      ∙ by-number x y _ (x == y) open-x open-y refl refl

  named : (c : ℕ) → has c f.opened ≡ true → Named f.about (sid_text (f.about c).sender.sid) (λ x. x == c) f.present
  named c open-c x there = differ x c (present-open x there) open-c

  apart-from : (c x : ℕ) → is_present (f.about c).stage ≡ false → has x f.present ≡ true → (x == c) ≡ true → ⊥
  apart-from c x absent there same = false≢true (sym absent ∙ ap (λ z. is_present (f.about z).stage) (sym (eqb-true x c same)) ∙ present-stage x there)

  not-same : (b : Bool) → (b ≡ true → ⊥) → b ≡ false
  not-same true none = absurd (none refl)
  not-same false none = refl

  module _ (c : ℕ) (effect : Effect) where
    abbrev own : SenderView
    own = own_of (f.about c)

    abbrev afterwards : ℕ → ConnState
    afterwards = about_parts c effect f.about

    abbrev present_then : List ℕ
    present_then = present_parts c effect f.about f.present

    -- all stay, and nobody enters
    all-stay : enters effect.change ≡ false → ((x : ℕ) → has x f.present ≡ true → is_present (afterwards x).stage ≡ true) → present_then ≡ f.present
    all-stay none stays = ap₂ (λ xs b. xs ++ cond b (c ∷ []) []) (all-kept (λ x. is_present (afterwards x).stage) f.present stays) none ∙ append-nil f.present

    -- of the sender, for any that is it
    at-sender : (P : Stage → Type 0) (x : ℕ) → (x == c) ≡ true → P (f.about c).stage → P (f.about x).stage
    at-sender P x same is = subst (λ z. P (f.about z).stage) (sym (eqb-true x c same)) is

    -- ---- it tells of nobody

    still-entries : IsStill own effect → entries afterwards present_then ≡ entries f.about f.present
    still-entries still =
        ap (entries afterwards) (all-stay still.enters (λ x there.
        next-present (is_removed effect.change (f.about x).sender.sid) (x == c) effect.change (f.about x).stage (still.removes (f.about x).sender.sid) (present-stage x there)
        (λ same. at-sender (λ s. is_present s ≡ true → is_present (stage_after effect.change s) ≡ true) x same (λ here. still.presence ∙ here) (present-stage x there))))
        ∙ map-same (entry_of afterwards) (entry_of f.about) f.present (λ x there.
        ap (λ fields. (sid_text (f.about x).sender.sid, fields)) (chosen-same (x == c) (fields_after effect.change (f.about x).fields) (f.about x).fields
        (λ same. subst (λ z. is_present (f.about z).stage ≡ true → fields_after effect.change (f.about z).fields ≡ (f.about z).fields) (sym (eqb-true x c same)) still.fields (present-stage x there))))

    still-step : IsStill own effect → (d : ℕ) → StepBy f c effect d
    still-step still d =
        let quiet : (users : List Listing) → fold heard users (owes (d == c) effect (f.about d)) ≡ users =
        λ users. others-heard users _ (owes-others (d == c) effect (f.about d) still.own_lines still.others) in
        record {
          here = λ there was. quiet (entries f.about f.present) ∙ sym (still-entries still);
          enters = λ there was. absurd (false≢true (sym was ∙ before-present (removed_by effect (f.about d)) (d == c) effect.change (f.about d).stage
              (λ same. at-sender (λ s. is_present (stage_after effect.change s) ≡ true → is_present s ≡ true) d same (λ here. sym still.presence ∙ here)) there));
          early = λ is. (
            before-early (removed_by effect (f.about d)) (d == c) effect.change (f.about d).stage
                (λ same. at-sender (λ s. is_early (stage_after effect.change s) ≡ true → is_early s ≡ true) d same still.early) is,
            quiet [],
          );
        }

    -- ---- its sender leaves

    left-entries : IsFarewell own effect → entries afterwards present_then ≡ entries f.about (filter (λ x. not (x == c)) f.present)
    left-entries bye =
        let stage_is : (x : ℕ) → is_present (afterwards x).stage ≡ (not (x == c) && is_present (f.about x).stage) =
        λ x. falls-present (is_removed effect.change (f.about x).sender.sid) (x == c) effect.change (f.about x).stage (f.about x).sender.sid bye.change refl in
        ap (entries afterwards) (ap₂ (λ xs b. xs ++ cond b (c ∷ []) [])
        (filter-same (λ x. is_present (afterwards x).stage) (λ x. not (x == c)) f.present
        (λ x there. stage_is x ∙ ap (λ b. not (x == c) && b) (present-stage x there) ∙ and-true (not (x == c)))) (ap enters bye.change)
        ∙ append-nil (filter (λ x. not (x == c)) f.present))
        ∙ map-same (entry_of afterwards) (entry_of f.about) (filter (λ x. not (x == c)) f.present) (λ x there.
        ap (λ fields. (sid_text (f.about x).sender.sid, fields)) (chosen-same (x == c) (fields_after effect.change (f.about x).fields) (f.about x).fields
        (λ same. ap (λ change. fields_after change (f.about x).fields) bye.change)))

    left-heard : (here : Bool) → is_present (f.about c).stage ≡ here
        → fold heard (entries f.about f.present) (cond here (quit_line (f.about c).sender.sid ∷ []) []) ≡ entries f.about (filter (λ x. not (x == c)) f.present)
    left-heard true here =
        quit-heard (f.about c).sender.sid (entries f.about f.present)
        ∙ without-entries f.about (sid_text (f.about c).sender.sid) (λ x. x == c) f.present (named c (sound.are_open c (not-over (f.about c).stage here)))
    left-heard false absent =
        ap (entries f.about) (sym (all-kept (λ x. not (x == c)) f.present (λ x there. ap not (not-same (x == c) (apart-from c x absent there)))))

    left-step : IsFarewell own effect → (d : ℕ) → StepBy f c effect d
    left-step bye d =
        let stage_is : is_present (afterwards d).stage ≡ (not (d == c) && is_present (f.about d).stage) =
        falls-present (is_removed effect.change (f.about d).sender.sid) (d == c) effect.change (f.about d).stage (f.about d).sender.sid bye.change refl in
        record {
          here = λ there was.
              let other = not-first (d == c) _ (sym stage_is ∙ there) in
              ap (fold heard (entries f.about f.present)) (owes-to-others (d == c) effect (f.about d) other bye.hearers was ∙ bye.others)
              ∙ left-heard (is_present (f.about c).stage) refl ∙ sym (left-entries bye);
          enters = λ there was. absurd (false≢true (sym was ∙ second-of (not (d == c)) _ (sym stage_is ∙ there)));
          early = λ is.
              let was = falls-early (removed_by effect (f.about d)) (d == c) effect.change (f.about d).stage bye.change is in
              (was.1, ap (fold heard []) (owes-absent (d == c) effect (f.about d) was.0 (early-absent (f.about d).stage was.1)));
        }

    -- ---- an operator shuts a user out

    removed-entries : (target : ℕ) → IsRemoval effect target → entries afterwards present_then ≡ entries f.about (filter (λ x. not ((f.about x).sender.sid == target)) f.present)
    removed-entries target removal =
        ap (entries afterwards) (ap₂ (λ xs b. xs ++ cond b (c ∷ []) [])
        (filter-same (λ x. is_present (afterwards x).stage) (λ x. not ((f.about x).sender.sid == target)) f.present
        (λ x there. gone-present (is_removed effect.change (f.about x).sender.sid) (x == c) effect.change (f.about x).stage (removal.stage (f.about x).stage) (present-stage x there)
        ∙ ap not (removal.removes (f.about x).sender.sid))) removal.enters
        ∙ append-nil (filter (λ x. not ((f.about x).sender.sid == target)) f.present))
        ∙ map-same (entry_of afterwards) (entry_of f.about) (filter (λ x. not ((f.about x).sender.sid == target)) f.present) (λ x there.
        ap (λ fields. (sid_text (f.about x).sender.sid, fields)) (chosen-same (x == c) (fields_after effect.change (f.about x).fields) (f.about x).fields
        (λ same. removal.fields (f.about x).fields)))

    removed-step : (user : Listed) (nick : List ℕ) → user_called (map (user_of f.about) f.present) nick ≡ Some user → IsRemoval effect user.sid → (d : ℕ) → StepBy f c effect d
    removed-step user nick called removal d =
        let found = found-here f.about (key_of_points nick) f.present user called in
        let range : user.sid < sid_count = subst (λ n. n < sid_count) found.2 (sids_are_given setup hash h small found.0 (present-open found.0 found.1)).1 in
        let word : Named f.about (sid_text user.sid) (λ x. (f.about x).sender.sid == user.sid) f.present =
        λ x there. spelt-same (f.about x).sender.sid user.sid (sids_are_given setup hash h small x (present-open x there)).1 range in
        let own-quiet : (users : List Listing) → fold heard users (cond (d == c) effect.own []) ≡ users =
        λ users. others-heard users _ (others-if (d == c) effect.own removal.own_lines) in
        record {
          here = λ there was.
              ap (fold heard (entries f.about f.present)) (owes-to-all (d == c) effect (f.about d) removal.hearers was ∙ ap (λ ls. ls ++ cond (d == c) effect.own []) removal.others)
              ∙ own-quiet (heard (entries f.about f.present) (removal_line user.sid removal.operator removal.seconds removal.reason))
              ∙ removal-heard user.sid removal.operator removal.seconds removal.reason (entries f.about f.present)
              ∙ without-entries f.about (sid_text user.sid) (λ x. (f.about x).sender.sid == user.sid) f.present word
              ∙ sym (removed-entries user.sid removal);
          enters = λ there was. absurd (false≢true (sym was ∙ before-present (removed_by effect (f.about d)) (d == c) effect.change (f.about d).stage
              (λ same here. ap is_present (sym (removal.stage (f.about d).stage)) ∙ here) there));
          early = λ is.
              let was = before-early (removed_by effect (f.about d)) (d == c) effect.change (f.about d).stage (λ same here. ap is_early (sym (removal.stage (f.about d).stage)) ∙ here) is in
              (was, ap (fold heard []) (owes-own (d == c) effect (f.about d) (early-absent (f.about d).stage was)) ∙ own-quiet []);
        }

    -- ---- its sender's fields change

    revised-entries : (u : List Field) → IsRevision own effect u → entries afterwards present_then ≡ map (renewed f.about (λ x. x == c) u) f.present
    revised-entries u revision =
        ap (entries afterwards) (all-stay revision.enters (λ x there.
        next-present (is_removed effect.change (f.about x).sender.sid) (x == c) effect.change (f.about x).stage (revision.removes (f.about x).sender.sid) (present-stage x there)
        (λ same. ap is_present (revision.stage (f.about x).stage) ∙ present-stage x there)))
        ∙ map-same (entry_of afterwards) (renewed f.about (λ x. x == c) u) f.present (λ x there. renewed-as (x == c) (f.about x) effect.change u (revision.fields (f.about x).fields))

    revised-heard : (u : List Field) → IsRevision own effect u → (none : Bool) → (length u == 0) ≡ none
        → fold heard (entries f.about f.present) (cond none [] (update_line (f.about c).sender.sid u ∷ [])) ≡ map (renewed f.about (λ x. x == c) u) f.present
    revised-heard u revision true none =
        map-same (entry_of f.about) (renewed f.about (λ x. x == c) u) f.present (λ x there. sym (renewed-none (x == c) (f.about x) u (no-length u none)))
    revised-heard u revision false some =
        let open-c : has c f.opened ≡ true = sound.are_open c (not-over (f.about c).stage (ap is_present revision.at)) in
        update-heard (f.about c).sender.sid u (entries f.about f.present) revision.told
        ∙ ap (λ b. if b then map (updated_listing (sid_text (f.about c).sender.sid) u) (entries f.about f.present) else entries f.about f.present ++ (sid_text (f.about c).sender.sid, u) ∷ [])
        (has-entries f.about (sid_text (f.about c).sender.sid) (λ x. x == c) f.present (named c open-c) ∙ sound.entered c ∙ ap is_present revision.at)
        ∙ updated-entries f.about (sid_text (f.about c).sender.sid) (λ x. x == c) u f.present (named c open-c)

    revised-step : (u : List Field) → IsRevision own effect u → (d : ℕ) → StepBy f c effect d
    revised-step u revision d = record {
      here = λ there was.
          ap (fold heard (entries f.about f.present)) (owes-to-all (d == c) effect (f.about d) revision.hearers was
          ∙ ap₂ (λ ls own. ls ++ cond (d == c) own []) revision.others revision.own_lines ∙ ap (λ ls. line_unless_empty (f.about c).sender.sid u ++ ls) (chosen-same (d == c) [] [] (λ same. refl))
          ∙ append-nil (line_unless_empty (f.about c).sender.sid u))
          ∙ revised-heard u revision (length u == 0) refl ∙ sym (revised-entries u revision);
      enters = λ there was. absurd (false≢true (sym was ∙ before-present (removed_by effect (f.about d)) (d == c) effect.change (f.about d).stage
          (λ same here. ap is_present (sym (revision.stage (f.about d).stage)) ∙ here) there));
      early = λ is.
          let was = before-early (removed_by effect (f.about d)) (d == c) effect.change (f.about d).stage (λ same here. ap is_early (sym (revision.stage (f.about d).stage)) ∙ here) is in (
            was,
            ap (fold heard []) (owes-own (d == c) effect (f.about d) (early-absent (f.about d).stage was) ∙ ap (λ own. cond (d == c) own []) revision.own_lines
                ∙ chosen-same (d == c) [] [] (λ same. refl)),
          );
    }

    -- ---- its sender enters

    abbrev fields_then : List Field
    fields_then = fields_after effect.change (f.about c).fields

    entered-entries : IsEntry (sight_of setup f) own effect → entries afterwards present_then ≡ entries f.about f.present ++ (sid_text (f.about c).sender.sid, fields_then) ∷ []
    entered-entries comes =
        let absent = early-absent (f.about c).stage comes.early in
        ap (entries afterwards) (ap₂ (λ xs b. xs ++ cond b (c ∷ []) [])
        (all-kept (λ x. is_present (afterwards x).stage) f.present (λ x there.
        next-present (is_removed effect.change (f.about x).sender.sid) (x == c) effect.change (f.about x).stage (comes.removes (f.about x).sender.sid) (present-stage x there)
        (λ same. absurd (apart-from c x absent there same)))) comes.enters)
        ∙ map-append afterwards f.present (c ∷ [])
        ∙ ap₂ (λ us fields. us ++ (sid_text (f.about c).sender.sid, fields) ∷ [])
        (map-same (entry_of afterwards) (entry_of f.about) f.present (λ x there.
        ap (λ fields. (sid_text (f.about x).sender.sid, fields)) (chosen-same (x == c) (fields_after effect.change (f.about x).fields) (f.about x).fields
        (λ same. absurd (apart-from c x absent there same)))))
        (ap (λ b. cond b (fields_after effect.change (f.about c).fields) (f.about c).fields) (eq-eqb c c refl))

    entered-line : IsEntry (sight_of setup f) own effect → AllByRecursion IsTold fields_then
        → heard (entries f.about f.present) (line_by (sight_of setup f) own fields_then) ≡ entries f.about f.present ++ (sid_text (f.about c).sender.sid, fields_then) ∷ []
    entered-line comes told =
        user-heard (f.about c).sender.sid fields_then _ (entries f.about f.present) told
        ∙ listed-last f.about c fields_then f.present (named c (sound.are_open c (early-open (f.about c).stage comes.early)))
        (absent-from c (early-absent (f.about c).stage comes.early))

    menus : (lines : List ConfiguredEntry) → AreOthers (map menu_line lines)
    menus [] = tt
    menus (item ∷ lines) = (other-menu item, menus lines)

    entered-welcome : IsEntry (sight_of setup f) own effect → AllByRecursion IsTold fields_then → fold heard [] effect.own ≡ entries f.about f.present ++ (sid_text (f.about c).sender.sid, fields_then) ∷ []
    entered-welcome comes told =
        ap (fold heard []) comes.welcomes
        ∙ fold-append heard [] (map (line_of (sight_of setup f)) (map (user_of f.about) f.present)) _
        ∙ ap (λ us. fold heard us (line_by (sight_of setup f) own fields_then ∷ cond (has_feature ucmd (f.about c).sender.features) (map menu_line setup.menu) []))
        (welcomed f.about (sight_of setup f) [] f.present (λ x y there-x there-y. differ x y (present-open x there-x) (present-open y there-y)) sound.present_once (told_of_user setup hash h))
        ∙ ap (λ us. fold heard us (cond (has_feature ucmd (f.about c).sender.features) (map menu_line setup.menu) [])) (entered-line comes told)
        ∙ others-heard _ _ (others-if (has_feature ucmd (f.about c).sender.features) (map menu_line setup.menu) (menus setup.menu))

    entered-step : IsEntry (sight_of setup f) own effect → AllByRecursion IsTold fields_then → (d : ℕ) → StepBy f c effect d
    entered-step comes told d =
        let absent = early-absent (f.about c).stage comes.early in
        record {
          here = λ there was.
              let other = not-same (d == c) (λ same. false≢true (sym absent ∙ ap (λ z. is_present (f.about z).stage) (sym (eqb-true d c same)) ∙ was)) in
              ap (fold heard (entries f.about f.present)) (owes-to-others (d == c) effect (f.about d) other comes.hearers was ∙ comes.others)
              ∙ entered-line comes told ∙ sym (entered-entries comes);
          enters = λ there was.
              let is = entered-is (removed_by effect (f.about d)) (d == c) effect.change (f.about d).stage was there in (
                subst (λ z. is_early (f.about z).stage ≡ true) (sym (eqb-true d c is)) comes.early,
                ap (fold heard []) (owes-to-sender (d == c) effect (f.about d) is comes.hearers) ∙ entered-welcome comes told ∙ sym (entered-entries comes),
              );
          early = λ is.
              let other = not-same (d == c) (λ same. entered-late (removed_by effect (f.about d)) (d == c) effect.change (f.about d).stage same
              (subst (λ z. stage_after effect.change (f.about z).stage ≡ stages.Normal) (sym (eqb-true d c same)) comes.here) is) in
              let was = before-early (removed_by effect (f.about d)) (d == c) effect.change (f.about d).stage (λ same here. absurd (false≢true (sym other ∙ same))) is in
              (was, ap (fold heard []) (owes-absent (d == c) effect (f.about d) other (early-absent (f.about d).stage was)));
        }

    -- ---- each effect

    step-by : Tells (sight_of setup f) own effect → AllByRecursion IsTold fields_then → (d : ℕ) → StepBy f c effect d
    step-by (nobody still) told d = still-step still d
    step-by (leaves bye) told d = left-step bye d
    step-by (entry comes) told d = entered-step comes told d
    step-by (revision_of u revision) told d = revised-step u revision d
    step-by (removal_of user nick called removal) told d = removed-step user nick called removal d

-- ---- what is so of each connection

record Lists (about : ℕ → ConnState) (present : List ℕ) (a : ConnState) : Type 0 where
  here : is_present a.stage ≡ true → a.lags ≡ false → list_after a.owed ≡ entries about present
  early : is_early a.stage ≡ true → a.lags ≡ false → list_after a.owed ≡ []

by-presence : (about after : ℕ → ConnState) (present then_present : List ℕ) (d : ℕ) (share : List (List ℕ)) (was : Bool) → is_present (about d).stage ≡ was → Step about after present then_present d share
    → Lists about present (about d) → (about d).lags ≡ false → is_present (after d).stage ≡ true → fold heard (list_after (about d).owed) share ≡ entries after then_present
by-presence about after present then_present d share true was step lists fine there = ap (λ us. fold heard us share) (lists.here was fine) ∙ step.here there was
by-presence about after present then_present d share false was step lists fine there =
    let enters = step.enters there was in ap (λ us. fold heard us share) (lists.early enters.0 fine) ∙ enters.1

lists-next : (about after : ℕ → ConnState) (present then_present : List ℕ) (d : ℕ) (share : List (List ℕ)) → (after d).owed ≡ owed_with (about d) share → (after d).lags ≡ lags_with (about d) share
    → Step about after present then_present d share → Lists about present (about d) → Lists after then_present (after d)
lists-next about after present then_present d share owed lags step lists = record {
  here = λ there fine.
      let more = grown (about d) share (sym lags ∙ fine) in
      ap list_after (owed ∙ more.1) ∙ after-more (about d).owed share ∙ by-presence about after present then_present d share (is_present (about d).stage) refl step lists more.0 there;
  early = λ is fine.
      let more = grown (about d) share (sym lags ∙ fine) in
      let was = step.early is in
      ap list_after (owed ∙ more.1) ∙ after-more (about d).owed share ∙ ap (λ us. fold heard us share) (lists.early was.0 more.0) ∙ was.1;
}

-- a call that tells nobody anything, and changes no user
lists-still : (about after : ℕ → ConnState) (present : List ℕ) (a : ConnState) → ((x : ℕ) → has x present ≡ true → entry_of after x ≡ entry_of about x) → Lists about present a → Lists after present a
lists-still about after present a same lists = record {
  here = λ there fine. lists.here there fine ∙ sym (map-same (entry_of after) (entry_of about) present same);
  early = lists.early;
}

joined-entry : (f : Facts) → Sound f → (owner : ℕ) (peer challenge : List ℕ) (x : ℕ) (same : Bool) → (x == (f.joins + 1)) ≡ same → has x f.present ≡ true
    → entry_of (λ y. cond same (newcomer owner (next_sid f) peer challenge) (f.about y)) x ≡ entry_of f.about x
joined-entry f is-sound owner peer challenge x true same there =
    absurd (false≢true (sym (absent-newcomer f is-sound) ∙ ap (λ z. is_present (f.about z).stage) (sym (eqb-true x (f.joins + 1) same)) ∙ sym (is-sound.entered x) ∙ there))
joined-entry f is-sound owner peer challenge x false same there = refl

lists-newcomer : (about : ℕ → ConnState) (present : List ℕ) (owner sid : ℕ) (peer challenge : List ℕ) → Lists about present (newcomer owner sid peer challenge)
lists-newcomer about present owner sid peer challenge = record { here = λ there fine. absurd (false≢true there); early = λ is fine. after-none }

lists-joined : (f : Facts) (owner : ℕ) (peer challenge : List ℕ) (after : ℕ → ConnState) (d : ℕ) (same : Bool) → (d == (f.joins + 1)) ≡ same
    → ((x : ℕ) → has x f.present ≡ true → entry_of after x ≡ entry_of f.about x) → Lists f.about f.present (f.about d)
    → Lists after f.present (cond same (newcomer owner (next_sid f) peer challenge) (f.about d))
lists-joined f owner peer challenge after d true is same lists = lists-newcomer after f.present owner (next_sid f) peer challenge
lists-joined f owner peer challenge after d false is same lists = lists-still f.about after f.present (f.about d) same lists

lists-join : (f : Facts) → Sound f → (owner : ℕ) (peer challenge : List ℕ) (accepted : Bool) → ((d : ℕ) → Lists f.about f.present (f.about d)) → (d : ℕ)
    → Lists (cond accepted (with_connection f owner peer challenge) f).about (cond accepted (with_connection f owner peer challenge) f).present ((cond accepted (with_connection f owner peer challenge) f).about d)
unfolding with_connection
lists-join f is-sound owner peer challenge true lists d =
    lists-joined f owner peer challenge (with_connection f owner peer challenge).about d (d == (f.joins + 1)) refl
    (λ x there. joined-entry f is-sound owner peer challenge x (x == (f.joins + 1)) refl there) (lists d)
lists-join f is-sound owner peer challenge false lists d = lists d

taken-entry : (count : ℕ) (same : Bool) (about : ℕ → ConnState) (x : ℕ) → entry_of (λ y. taken_by same count (about y)) x ≡ entry_of about x
taken-entry count same about x = refl

-- ---- every call, and every history

module _ (setup : Configured) (hash : List ℕ → List ℕ) (h : List Entry) (small : setup.plain.max_users ≤ most_users) where
  line-step : (caller c : ℕ) (bytes : List ℕ) (now : ℕ) (d : ℕ) → StepBy (facts setup hash h) c (effect_of_line setup hash (facts setup hash h) c bytes now) d
  unfolding facts after happens
  line-step caller c bytes now d =
      let f : Facts = facts setup hash h in
      let effect : Effect = effect_of_line setup hash f c bytes now in
      let e : Entry = record { caller = caller; call = Line c bytes now; reply = Left } in
      step-by setup hash h small c effect (line-tells (sight_of setup f) (own_of (f.about c)) (prepared_line setup hash (f.about c).sender.challenge bytes) now)
      (subst (AllByRecursion IsTold) (ap (λ b. cond b (fields_after effect.change (f.about c).fields) (f.about c).fields) (eq-eqb c c refl))
      (subst (λ (g : Facts). AllByRecursion IsTold (g.about c).fields) (happens-parts c effect f) (told_of_user setup hash (e ∷ h) c))) d

  quit-step : (c d : ℕ) → StepBy (facts setup hash h) c (departure ((facts setup hash h).about c).stage ((facts setup hash h).about c).sender.sid) d
  quit-step c d = left-step setup hash h small c _ (record { others = refl; hearers = refl; change = refl }) d

  next : (caller : ℕ) (call : Call) → ((d : ℕ) → Lists (facts setup hash h).about (facts setup hash h).present ((facts setup hash h).about d)) → (d : ℕ)
      → Lists (after setup hash (facts setup hash h) caller call).about (after setup hash (facts setup hash h) caller call).present ((after setup hash (facts setup hash h) caller call).about d)
  unfolding after happens without_connection
  next caller (Join peer challenge now) lists d =
      lists-join (facts setup hash h) (sound_of setup hash h) caller peer challenge (has_place setup (facts setup hash h) && has_joins (facts setup hash h)) lists d
  next caller (Line c bytes now) lists d =
      let f : Facts = facts setup hash h in
      let effect : Effect = effect_of_line setup hash f c bytes now in
      subst (λ (g : Facts). Lists g.about g.present (g.about d)) (sym (happens-parts c effect f))
      (lists-next f.about (about_parts c effect f.about) f.present (present_parts c effect f.about f.present) d (owes (d == c) effect (f.about d)) refl refl (line-step caller c bytes now d) (lists d))
  next caller (Quit c) lists d =
      let f : Facts = facts setup hash h in
      let effect : Effect = departure (f.about c).stage (f.about c).sender.sid in
      subst (λ (g : Facts). Lists g.about g.present (g.about d)) (sym (happens-parts c effect f))
      (lists-next f.about (about_parts c effect f.about) f.present (present_parts c effect f.about f.present) d (owes (d == c) effect (f.about d)) refl refl (quit-step c d) (lists d))
  next caller (Take c count) lists d =
      let f : Facts = facts setup hash h in
      subst (λ (g : Facts). Lists g.about g.present (g.about d)) (take-facts c count f)
      (record {
        here = λ there fine. (lists d).here there fine;
        early = λ is fine. (lists d).early is fine;
      })

lists_of : (setup : Configured) (hash : List ℕ → List ℕ) (h : List Entry) → setup.plain.max_users ≤ most_users → (d : ℕ) → Lists (facts setup hash h).about (facts setup hash h).present ((facts setup hash h).about d)
unfolding facts
lists_of setup hash [] small d = record { here = λ there fine. absurd (false≢true there); early = λ is fine. after-none }
lists_of setup hash (e ∷ h) small d = next setup hash h small e.caller e.call (lists_of setup hash h small) d

pub all_list_the_same : AllListTheSame
all_list_the_same setup hash h d small at fine = (lists_of setup hash h small d).here (ap is_present at) fine

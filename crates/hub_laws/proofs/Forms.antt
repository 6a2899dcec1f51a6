-- Each line that a connection is owed is words with one blank between each two, and has one line feed.
use Rattle.std.proofs.Common.{◌≡◌, ◌∙◌, sym, ap, refl, subst, ℕ, ◌<◌, Bool, true, false, List, [], ◌∷◌, ◌++◌, arith}
use Rattle.std.specs.Prelude.{Option, Some, None, codes, if◌then◌else◌}
use Rattle.std.specs.Fmt.{decimal}
use Rattle.std.specs.List.{Contains, flat_map}
use Rattle.std.specs.Str.{IsUtf8}
use Rattle.std.proofs.lemmas.Str.{IsUtf8-append}
use Rattle.adc_base32.specs.Sids.{sid_count, sid_text}
use Rattle.adc_base32.specs.Spelled.{numbers_from, spelling}
use Rattle.adc_line.specs.Escapes.{escaped_text}
use Rattle.adc_line.specs.Grammar.{IsAddressed, IsCommand, IsFeatureWord, IsParameter, IsPart, Part, Reads, part_text}
use Rattle.adc_line.specs.Header.{is_sign, letter}
use Rattle.adc_line.specs.Lines.{Reading}
use Rattle.adc_line.specs.declared.header.Kind.TheVariants.{Broadcast, Info}
use Rattle.adc_line.proofs.EscapeLemmas.{escaped-nil}
use Rattle.inf_fields.specs.Field.{printed_fields}
use Rattle.hub_rules.specs.Configured.{ConfiguredEntry}
use Rattle.hub_rules.specs.History.{about}
use Rattle.hub_rules.specs.Shares.{has_room}
use Rattle.hub_rules.specs.Texts.{challenge_line, client_type, menu_item, menu_line, update_line}
use Rattle.hub_laws.proofs.Words.{ConnState, AllByRecursion, Becomes, Call, Configured, Entry, Facts, Kind, becomes, facts, false≢true, info, lines_owed, owed_with, share, sid, sight_of, user_line, with_line_feed}
use Rattle.hub_laws.proofs.Words.kinds
use Rattle.hub_laws.specs.Forms.{Form, IsWholeLine, LinesAreMessages, LinesEndOnce, of_hub, of_info, of_nameless, of_no_challenge, of_user}
use Rattle.hub_laws.specs.Messages.{goes_to_users}
use Rattle.hub_laws.specs.Welcome.{info_line}
use Rattle.hub_laws.specs.Registered.{account_at}
use Rattle.hub_laws.proofs.Fields.{told_of_user}
use Rattle.hub_laws.proofs.HubLines.{challenge-is, done-is, entry-told, hub-is, identifier-is, menu-is, quit-is, removal-is, status-is, support-is, topic-is, type-told, type-utf8}
use Rattle.hub_laws.proofs.Others.{letter-of}
use Rattle.hub_laws.proofs.Pieces.{IsSolid, blank-utf8, from-all, is_gap, plain-utf8, letter-digit-solid, letter-solid, sid-solid, to-all}
use Rattle.hub_laws.proofs.Secrets.{all-append, all-as}
use Rattle.hub_laws.proofs.Sources.{Source, from_challenge, from_done, from_entrant, from_hub, from_identifier, from_menu, from_message, from_quit, from_removal, from_status, from_support, from_topic, from_update, from_user, share-has, small-sid}
use Rattle.hub_laws.proofs.Written.{HubLine, IsClean, Told, behind, behind-clean, clean-line, fields-told, fields-utf8, joined, parameters-solid, sid-plain}
use Rattle.hub_laws.proofs.Written.{solid-clean, some-byte, told-both, told-clean}

-- ---- both laws of one line

record IsFine (setup : Configured) (challenge line : List ℕ) : Type 0 where
  one : IsWholeLine line
  form : Form setup challenge line

command-solid : (kind : Kind) (command : List ℕ) → IsCommand command → IsSolid (letter kind ∷ command)
command-solid kind command is = (
  letter-of kind,
  subst IsSolid (sym is.3) (letter-solid is.0 is.4, (letter-digit-solid is.1 is.5, (letter-digit-solid is.2 is.6, tt))),
)

named-utf8 : IsUtf8 (codes "BINF ")
named-utf8 = IsUtf8-append (codes "BINF") (32 ∷ []) (plain-utf8 (codes "BINF") (refl, (refl, (refl, (refl, tt))))) blank-utf8

module _ {setup : Configured} {challenge : List ℕ} where
  hub-fine : {line : List ℕ} → HubLine line → IsFine setup challenge line
  hub-fine {line} is =
      let text : List ℕ = (73 ∷ is.command) ++ behind is.params in
      let message : Reading = record { text = text; kind = Info; command = is.command; from = None; target = None; features = None; params = is.params } in
      let clean : IsClean text =
      all-append _ (73 ∷ is.command) (behind is.params) (solid-clean (73 ∷ is.command) (command-solid Info is.command is.is)) (behind-clean is.params (parameters-solid is.params is.all)) in
      record {
        one = subst IsWholeLine (sym is.line_is) (clean-line text clean);
        form = of_hub (record {
          text = text;
          message = message;
          ends = is.line_is;
          grammar = record {
            same = refl;
            command = is.is;
            addresses = [];
            addressed = (refl, refl, refl, refl);
            params = to-all IsParameter is.params is.all;
            spelt = sym (joined (73 ∷ is.command) is.params);
          };
          kind = refl;
        });
      }

  info-fine : (own : ℕ) (flags : List ℕ) → own < sid_count → Told flags → IsUtf8 flags → IsFine setup challenge (with_line_feed (codes "BINF " ++ sid_text own ++ flags))
  info-fine own flags small is utf8 =
      let text : List ℕ = codes "BINF " ++ sid_text own ++ flags in
      let message : Reading = record { text = text; kind = Broadcast; command = codes "INF"; from = Some own; target = None; features = None; params = is.params } in
      record {
        one = clean-line text (refl, (refl, (refl, (refl, (refl, all-append _ (sid_text own) flags (solid-clean (sid_text own) (sid-solid own)) (told-clean flags is))))));
        form = of_info (record {
          text = text;
          message = message;
          ends = refl;
          grammar = record {
            same = refl;
            command = (73, 78, 70, refl, refl, refl, refl);
            addresses = sid_text own ∷ [];
            addressed = (own, small, refl, refl, refl, refl);
            params = to-all IsParameter is.params is.all;
            spelt = ap (λ (bs : List ℕ). codes "BINF " ++ bs) (sym (joined (sid_text own) is.params ∙ ap (λ (bs : List ℕ). sid_text own ++ bs) is.is));
          };
          utf8 = IsUtf8-append (codes "BINF " ++ sid_text own) flags (IsUtf8-append (codes "BINF ") (sid_text own) named-utf8 (plain-utf8 _ (sid-plain own small))) utf8;
          kind = refl;
          command = refl;
        });
      }

  -- an entry of the menu without a name
  nameless-fine : (entry : ConfiguredEntry) → Contains setup.menu entry → entry.name ≡ [] → IsFine setup challenge (menu_line entry)
  unfolding menu_line
  nameless-fine entry there none = record {
    one = subst (λ (bs : List ℕ). IsWholeLine (with_line_feed (codes "ICMD " ++ bs ++ codes " CT" ++ decimal entry.context ++ menu_item entry.text))) (sym (ap escaped_text none ∙ escaped-nil))
        (clean-line (codes "ICMD  CT" ++ decimal entry.context ++ menu_item entry.text) (refl, (refl, (refl, (refl, (refl, told-clean _ (entry-told entry)))))));
    form = of_nameless entry there none refl;
  }

  menu-fine : (entry : ConfiguredEntry) → Contains setup.menu entry → (name : List ℕ) → entry.name ≡ name → IsFine setup challenge (menu_line entry)
  menu-fine entry there [] none = nameless-fine entry there none
  menu-fine entry there (b ∷ name) is = hub-fine (menu-is entry (λ none. some-byte b name (sym is ∙ none)))

challenge-fine : {setup : Configured} (given challenge : List ℕ) → given ≡ challenge → IsFine setup given (challenge_line given)
unfolding challenge_line spelling numbers_from
challenge-fine given [] none = record {
  one = subst (λ (bs : List ℕ). IsWholeLine (challenge_line bs)) (sym none) (clean-line (codes "IGPA ") (refl, (refl, (refl, (refl, (refl, tt))))));
  form = of_no_challenge none refl;
}
challenge-fine given (b ∷ challenge) is = hub-fine (subst (λ (bs : List ℕ). HubLine (challenge_line bs)) (sym is) (challenge-is b challenge))

-- ---- messages of users

parts-solid : (parts : List Part) → AllByRecursion IsPart parts → IsSolid (flat_map part_text parts)
parts-solid [] all = tt
parts-solid (part ∷ parts) all = (
  sign-solid part.sign all.0.0,
  (letter-solid part.a all.0.1, (letter-digit-solid part.b all.0.2, (letter-digit-solid part.c all.0.3, (letter-digit-solid part.d all.0.4, parts-solid parts all.1)))),
)
  where
    sign-solid : (sign : ℕ) → is_sign sign ≡ true → is_gap sign ≡ false
    sign-solid sign is = grind arith

features-solid : (word : List ℕ) → IsFeatureWord word → IsSolid word
features-solid word is = subst IsSolid (sym is.1.1) (parts-solid is.1.0 (from-all IsPart is.1.0 is.1.2))

addressed-solid : (kind : Kind) (ws : List (List ℕ)) (from target : Option ℕ) (features : Option (List ℕ)) → goes_to_users kind ≡ true → IsAddressed kind ws from target features
    → AllByRecursion IsSolid ws
addressed-solid kinds.Broadcast ws from target features users is = subst (AllByRecursion IsSolid) (sym is.2) (sid-solid is.0, tt)
addressed-solid kinds.Direct ws from target features users is = subst (AllByRecursion IsSolid) (sym is.4) (sid-solid is.0, (sid-solid is.1, tt))
addressed-solid kinds.Echo ws from target features users is = subst (AllByRecursion IsSolid) (sym is.4) (sid-solid is.0, (sid-solid is.1, tt))
addressed-solid kinds.Feature ws from target features users is = subst (AllByRecursion IsSolid) (sym is.4) (sid-solid is.0, (features-solid is.1 is.3, tt))
addressed-solid kinds.Client ws from target features users is = absurd (false≢true users)
addressed-solid kinds.Hub ws from target features users is = absurd (false≢true users)
addressed-solid kinds.Info ws from target features users is = absurd (false≢true users)
addressed-solid kinds.Udp ws from target features users is = absurd (false≢true users)

message-clean : (bytes : List ℕ) (message : Reading) → Reads bytes message → goes_to_users message.kind ≡ true → IsClean bytes
message-clean bytes message is users =
    subst IsClean (sym (is.spelt ∙ joined (letter message.kind ∷ message.command) (is.addresses ++ message.params)))
    (all-append _ (letter message.kind ∷ message.command) (behind (is.addresses ++ message.params)) (solid-clean (letter message.kind ∷ message.command) (command-solid message.kind message.command is.command))
    (behind-clean (is.addresses ++ message.params) (all-append IsSolid is.addresses message.params
    (addressed-solid message.kind is.addresses message.from message.target message.features users is.addressed)
    (parameters-solid message.params (from-all IsParameter message.params is.params)))))

-- ---- every line

user-fine : (setup : Configured) (hash : List ℕ → List ℕ) (h : List Entry) (c : ℕ) (challenge : List ℕ) → IsFine setup challenge (info_line setup hash h c)
unfolding user_line
user-fine setup hash h c challenge =
    let fields = told_of_user setup hash h c in
    info-fine (sid setup hash h c) (printed_fields (info setup hash h c) ++ client_type (account_at setup hash h c)) (small-sid setup hash h c)
    (told-both (printed_fields (info setup hash h c)) _ (fields-told (info setup hash h c) fields) (type-told _))
    (IsUtf8-append (printed_fields (info setup hash h c)) _ (fields-utf8 (info setup hash h c) fields) (type-utf8 _))

module _ {setup : Configured} {hash : List ℕ → List ℕ} {h : List Entry} {e : Entry} {d : ℕ} where
  fine-of : {line : List ℕ} → Source setup hash h e d line → IsFine setup (about setup hash h d).sender.challenge line
  unfolding update_line
  fine-of from_support = hub-fine support-is
  fine-of (from_identifier c) = hub-fine (identifier-is _ (small-sid setup hash h c))
  fine-of (from_hub now features topic) = hub-fine (hub-is setup (sight_of setup (facts setup hash h)) now features topic)
  fine-of (from_topic topic) = hub-fine (topic-is topic)
  fine-of from_challenge = challenge-fine (about setup hash h d).sender.challenge (about setup hash h d).sender.challenge refl
  fine-of (from_menu item there) = menu-fine item there item.name refl
  fine-of from_done = hub-fine done-is
  fine-of (from_removal target operator seconds reason small smaller) = hub-fine (removal-is target operator seconds reason small smaller)
  fine-of (from_status line is) = hub-fine (subst HubLine (sym is.2) (status-is is.0 is.1))
  fine-of (from_quit c) = hub-fine (quit-is _ (small-sid setup hash h c))
  fine-of (from_user c at) = user-fine setup hash h c (about setup hash h d).sender.challenge
  fine-of (from_entrant c at) = user-fine setup hash (e ∷ h) c (about setup hash h d).sender.challenge
  fine-of (from_update c bytes now u call at is-told) = info-fine (sid setup hash h c) (printed_fields u) (small-sid setup hash h c) (fields-told u is-told) (fields-utf8 u is-told)
  fine-of (from_message c bytes now message call is reads from kind command) = record {
    one = clean-line bytes (message-clean bytes message reads kind);
    form = of_user (record { text = bytes; message = message; ends = refl; grammar = reads; kind = kind; command = command });
  }

-- ---- every history

owed-all : (P : List ℕ → Type 0) (a : ConnState) (lines : List (List ℕ)) → AllByRecursion P lines → AllByRecursion P a.owed → AllByRecursion P (owed_with a lines)
unfolding owed_with
owed-all P a lines more was = by-room (has_room a lines)
  where
    by-room : (room : Bool) → AllByRecursion P (if room then a.owed ++ lines else a.owed)
    by-room true = all-append P a.owed lines was more
    by-room false = was

abbrev AreFine : Configured → ConnState → List (List ℕ) → Type 0
AreFine setup a lines = AllByRecursion (IsFine setup a.sender.challenge) lines

module _ {setup : Configured} {hash : List ℕ → List ℕ} {f : Facts} {caller d : ℕ} where
  fine-after : {call : Call} {a : ConnState} → Becomes setup hash f caller d call a → AreFine setup (f.about d) (share setup hash f d call) → AreFine setup (f.about d) (f.about d).owed → AreFine setup a a.owed
  fine-after (Becomes.joins peer challenge now place is) more was = tt
  fine-after (Becomes.says c bytes now) more was = owed-all (IsFine setup (f.about d).sender.challenge) (f.about d) _ more was
  fine-after (Becomes.quits c) more was = owed-all (IsFine setup (f.about d).sender.challenge) (f.about d) _ more was
  fine-after _ more was = was

fine-owed : (setup : Configured) (hash : List ℕ → List ℕ) (h : List Entry) (c : ℕ) → AllByRecursion (IsFine setup (about setup hash h c).sender.challenge) (lines_owed setup hash h c)
unfolding facts
fine-owed setup hash [] c = tt
fine-owed setup hash (e ∷ h) c =
    fine-after (becomes setup hash (facts setup hash h) e.caller c e.call)
    (all-as (Source setup hash h e c) (IsFine setup (about setup hash h c).sender.challenge) (share setup hash (facts setup hash h) c e.call) (λ line is. fine-of is) (share-has setup hash h e c))
    (fine-owed setup hash h c)

pub lines_end_once : LinesEndOnce
lines_end_once setup hash h c = all-as (IsFine setup (about setup hash h c).sender.challenge) IsWholeLine (lines_owed setup hash h c) (λ line is. is.one) (fine-owed setup hash h c)

pub lines_are_messages : LinesAreMessages
lines_are_messages setup hash h c =
    all-as (IsFine setup (about setup hash h c).sender.challenge) (Form setup (about setup hash h c).sender.challenge) (lines_owed setup hash h c) (λ line is. is.form) (fine-owed setup hash h c)

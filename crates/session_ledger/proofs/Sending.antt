-- What goes out of a session, one time more, and what is there by then.
use Rattle.std.proofs.Common.{◌≡◌, ◌≤◌, ◌∙◌, ℕ, suc, List, [], ◌∷◌, ◌++◌, length, take, Option, None, Some, Result, Ok, Err, OnOk, OnErr, refl, sym, ap, subst, append-nil, append_assoc, arith, unwrap_or, zero, IsSome}
use Rattle.std.specs.Option.{option_map}
use Rattle.disk_trait.specs.Disk.{Image, State}
use Rattle.plist_state.specs.State.{WorldState}
use Rattle.prevalence_store.specs.Theorem.{Call, disk_after, world_after}
use Rattle.sessions.specs.Account.{Account, AreStored, AreUnderWay, call_of_stored, with_forms}
use Rattle.prevalence_store.specs.calls.Store.{StoreView}
use Rattle.sessions.specs.Streams.{Writes, WritesPart}
use Rattle.session_ledger.specs.Ledger.{Agrees, IsAccountOf, account_from, account_past, named_first}
use Rattle.session_ledger.specs.OutgoingLines.{Outgoing, WentOut, calls_in, disk_after_lines, handings_of, out_of}
use Rattle.store_laws.specs.Batches.{MeansCalls}
use Rattle.store_laws.specs.SessionLines.{AreCalls, AreHanded, Handing, account_after, call_since, calls_of_handings}
use Rattle.user_macros.specs.Functions.{Functions}

-- ---- one time more

module _ {D R : Type 0} where
  handings_more : (sent : List (Outgoing D R)) (last : Outgoing D R) → handings_of (sent ++ last ∷ []) ≡ handings_of sent ++ last.handing ∷ []
  handings_more [] last = refl
  handings_more (one ∷ more) last = ap (λ hs. one.handing ∷ hs) (handings_more more last)

  out_more : (sent : List (Outgoing D R)) (last : Outgoing D R) → out_of (sent ++ last ∷ []) ≡ out_of sent ++ last.out
  out_more [] last = append-nil last.out
  out_more (one ∷ more) last = ap (λ bytes. one.out ++ bytes) (out_more more last) ∙ sym (append_assoc one.out (out_of more) last.out)

  past_more : (past : List (StoreView D R × ℕ)) (account : Account D) (store : StoreView D R) (forms : ℕ)
      → account_past account (past ++ (store, forms) ∷ []) ≡ with_forms forms store (account_past account past)
  past_more [] account store forms = refl
  past_more (one ∷ more) account store forms = past_more more (with_forms one.1 one.0 account) store forms

-- the account of a recipient one time later
pub account_more : {D R : Type 0} (first : Option (Account D)) (past : List (StoreView D R × ℕ)) (store : StoreView D R) (forms : ℕ) (later : Account D)
    → account_from first (past ++ (store, forms) ∷ []) ≡ Some later → option_map (with_forms forms store) (account_from first past) ≡ Some later
account_more None past store forms later is = is
account_more (Some account) past store forms later is = ap (λ a. Some a) (sym (past_more past account store forms)) ∙ is

-- and that of an output which keeps one itself
pub agrees_more : {D R : Type 0} (first theirs next : Option (Account D)) (past : List (StoreView D R × ℕ)) (store : StoreView D R) (forms : ℕ)
    → Agrees theirs (account_from first past) → ((later : Account D) → next ≡ Some later → option_map (with_forms forms store) theirs ≡ Some later)
    → Agrees next (account_from first (past ++ (store, forms) ∷ []))
agrees_more first None next past store forms agrees kept later is = let none = kept later is in absurd (cc)
agrees_more None (Some account) next past store forms agrees kept later is = let none = agrees account refl in absurd (cc)
agrees_more (Some begun) (Some account) next past store forms agrees kept later is =
    let ours = agrees account refl in
    let next_is = kept later is in
    let same : account_past begun past ≡ account = cc in
    let last : with_forms forms store account ≡ later = cc in
    ap (λ a. Some a) (past_more past begun store forms ∙ ap (with_forms forms store) same ∙ last)

-- bytes after bytes
writes_more : (held mid new : Option (List ℕ)) (first second : List ℕ) → Writes held mid first → Writes mid new second → Writes held new (first ++ second)
writes_more held mid new first second one other had is = other (had ++ first) (one had is) ∙ ap (λ bytes. Some bytes) (append_assoc had first second)

-- the part of the lines that went out
pub sent_by : {D R A E : Type 0} (handing : Handing D R) (mid new : Option (List ℕ)) (result : Result A E)
    → OnOk result (Writes mid new handing.lines) → OnErr result (WritesPart mid new handing.lines)
    → (sent : Outgoing D R) × (sent.handing ≡ handing) × Writes mid new sent.out
sent_by handing mid new (Ok done) whole part = (record { handing = handing; out = handing.lines; rest = []; parts = sym (append-nil handing.lines) }, refl, whole)
sent_by handing None new (Err fault) whole part =
    (record { handing = handing; out = []; rest = handing.lines; parts = refl }, refl, λ had is. absurd (cc))
sent_by handing (Some bytes) new (Err fault) whole part =
    let got = part bytes refl in (
      record { handing = handing; out = got.front; rest = got.rest; parts = got.parts },
      refl,
      λ had is. let same : bytes ≡ had = cc in got.written ∙ ap (λ b. Some (b ++ got.front)) same,
    )

module _ (functions : Functions) {D : Type 0} (R : Type 0) (state : D → State) where
  -- lines that are handed on come after the others
  abbrev pub GoesOn : Type 0
  GoesOn = (first : Account D) (handings : List (Handing D R)) (last : Handing D R) → AreHanded functions state first handings
      → AreStored functions state (account_after first handings) last.store last.lines last.forms
      → AreHanded functions state first (handings ++ last ∷ [])
      × (account_after first (handings ++ last ∷ []) ≡ with_forms last.forms last.store (account_after first handings))

  -- nothing went out yet
  pub kept_first : (first : Option (Account D)) (held : Option (List ℕ)) → IsAccountOf functions {R = R} state first held held []
  kept_first first held begun is = record {
    out = record { sent = []; handed = tt; output = λ had there. there ∙ ap (λ bytes. Some bytes) (sym (append-nil had)) };
    account_is = refl;
  }

  module _ (law : GoesOn) (first : Option (Account D)) (held mid new : Option (List ℕ)) (past : List (StoreView D R × ℕ)) (store : StoreView D R) (lines : List ℕ) (forms : ℕ) where
    pub kept_more : {A E : Type 0} (result : Result A E) → OnOk result (Writes mid new lines) → OnErr result (WritesPart mid new lines)
        → ((kept : Account D) → account_from first past ≡ Some kept → AreStored functions state kept store lines forms)
        → IsAccountOf functions state first held mid past → IsAccountOf functions state first held new (past ++ (store, forms) ∷ [])
    kept_more result whole part stored kept begun is =
        let so_far = kept begun is in
        let sent = so_far.out.sent in
        let last : Handing D R = record { store = store; lines = lines; forms = forms } in
        let (more, same, writes) = sent_by last mid new result whole part in
        let ours : account_from first past ≡ Some (account_past begun past) = ap (λ o. account_from o past) is in
        let asks = subst (λ (a : Account D). AreStored functions state a store lines forms) (sym so_far.account_is) (stored (account_past begun past) ours) in
        let next = law begun (handings_of sent) last so_far.out.handed asks in
        let all : handings_of (sent ++ more ∷ []) ≡ handings_of sent ++ last ∷ [] = handings_more sent more ∙ ap (λ h. handings_of sent ++ h ∷ []) same in
        record {
          out = record {
            sent = sent ++ more ∷ [];
            handed = subst (λ hs. AreHanded functions state begun hs) (sym all) next.0;
            output = subst (Writes held new) (sym (out_more sent more)) (writes_more held mid new (out_of sent) more.out so_far.out.output writes);
          };
          account_is = ap (account_after begun) all ∙ next.1 ∙ ap (with_forms forms store) so_far.account_is ∙ sym (past_more past begun store forms);
        }

  -- what went out in all
  pub went_so : (first : Option (Account D)) (begun : Account D) (closed : StoreView D R) (held written : Option (List ℕ)) (past : List (StoreView D R × ℕ)) → first ≡ Some begun
      → IsAccountOf functions state first held written past → ((kept : Account D) → account_from first past ≡ Some kept → AreUnderWay functions state kept closed)
      → WentOut functions state begun closed held written
  went_so first begun closed held written past is kept since =
      let of = kept begun is in
      record {
        out = of.out;
        since = subst (λ (a : Account D). AreUnderWay functions state a closed) (sym of.account_is) (since (account_past begun past) (ap (λ o. account_from o past) is));
      }

  -- ---- what is there by then

  -- The calls of a session, parted after so many times.
  record Parted (account : Account D) (handings : List (Handing D R)) (calls : List (Call D)) (k : ℕ) : Type 0 where
    pub earlier : List (Call D)
    pub later : List (Call D)
    pub parts : calls ≡ earlier ++ later
    pub many : length earlier ≡ k
    pub disk : disk_after account.disk earlier ≡ (account_after account (take k handings)).disk
    pub now : WorldState
    pub world : world_after (Some account.now) earlier ≡ Some now

  parted : (k : ℕ) (handings : List (Handing D R)) (account : Account D) (handed : AreHanded functions state account handings) (others : List (Call D)) → k ≤ length handings
      → Parted account handings (calls_of_handings functions state account handings handed ++ others) k
  parted zero handings account handed others fits = record {
    earlier = [];
    later = calls_of_handings functions state account handings handed ++ others;
    parts = refl;
    many = refl;
    disk = refl;
    now = account.now;
    world = refl;
  }
  parted (suc k) [] account handed others fits = absurd (omega arith)
  parted (suc k) (one ∷ more) account handed others fits =
      let next = with_forms one.forms one.store account in
      let here : next.now ≡ handed.0.far.world = ap (λ o. unwrap_or o account.now) handed.0.left in
      let rest = parted k more next handed.1 others (omega arith) in
      record {
        earlier = call_of_stored functions state account one.store one.lines one.forms handed.0 ∷ rest.earlier;
        later = rest.later;
        parts = ap (λ cs. call_of_stored functions state account one.store one.lines one.forms handed.0 ∷ cs) rest.parts;
        many = ap suc rest.many;
        disk = rest.disk;
        now = rest.now;
        world = subst (λ (w : WorldState). world_after (Some w) rest.earlier ≡ Some rest.now) here rest.world;
      }

  -- a crash from then on
  pub there_by_then : (first : Account D) (closed : StoreView D R) (held written : Option (List ℕ)) (went : WentOut functions state first closed held written)
      → AreCalls functions state first (calls_in functions state first closed went) → (k : ℕ) → k ≤ length went.out.sent
      → (image : Image) → (state closed.disk).left_since (state (disk_after_lines first went.out.sent k)).moment image
      → MeansCalls functions first.now (calls_in functions state first closed went) k image
  there_by_then first closed held written went are k fits image might =
      let handings = handings_of went.out.sent in
      let since = call_since functions state (account_after first handings) closed went.since in
      let p = parted k handings first went.out.handed (since ∷ []) (subst (λ n. k ≤ n) (sym (as_many went.out.sent)) fits) in
      let last : disk_after first.disk (p.earlier ++ p.later) ≡ closed.disk = ap (disk_after first.disk) (sym p.parts) ∙ ends_at handings first went.out.handed since in
      let meant = (are.whole p.earlier p.later p.parts).any_moment p.now p.world image
      (subst (λ d. (state d).left_since (state (disk_after first.disk p.earlier)).moment image) (sym last)
      (subst (λ d. (state closed.disk).left_since (state d).moment image) (sym p.disk) might)) in
      subst (λ n. MeansCalls functions first.now (calls_in functions state first closed went) n image) p.many
      (subst (λ cs. MeansCalls functions first.now cs (length p.earlier) image) (sym p.parts) meant) where
        as_many : (sent : List (Outgoing D R)) → length (handings_of sent) ≡ length sent
        as_many [] = refl
        as_many (one ∷ more) = ap suc (as_many more)

        ends_at : (handings : List (Handing D R)) (account : Account D) (handed : AreHanded functions state account handings) (call : Call D)
            → disk_after account.disk (calls_of_handings functions state account handings handed ++ call ∷ []) ≡ call.disk
        ends_at [] account handed call = refl
        ends_at (one ∷ more) account handed call = ends_at more (with_forms one.forms one.store account) handed.1 call

-- ---- as a session begins

-- an output that keeps its account itself agrees
pub agrees_first : {D : Type 0} (R : Type 0) (first theirs : Option (Account D)) → Agrees theirs first → Agrees theirs (account_from {R = R} first [])
agrees_first R None theirs agrees kept is = agrees kept is
agrees_first R (Some account) theirs agrees kept is = agrees kept is

-- the account of the ledger is that of the session
pub begins_so : {D : Type 0} (R : Type 0) (first : Option (Account D)) (begun kept : Account D) → first ≡ Some begun → account_from {R = R} first [] ≡ Some kept → kept ≡ begun
begins_so R None begun kept is known = absurd (cc)
begins_so R (Some account) begun kept is known = cc

-- the output is where it was
pub same_name : {D : Type 0} (first : Option (Account D)) (begun : Account D) (old new : ℕ) → first ≡ Some begun → named_first first new ≡ named_first first old → new ≡ old
same_name None begun old new is same = absurd (cc)
same_name {D} (Some account) begun old new is same = ap (λ (o : Option (Account D)). unwrap_or (option_map (λ (a : Account D). a.forms) o) 0) same

-- the store has a world
pub known_world : {A : Type 0} (left : Option A) → IsSome left → (world : A) × (left ≡ Some world)
known_world None some = absurd (cc)
known_world (Some world) some = (world, refl)

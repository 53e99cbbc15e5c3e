-- Five small changes, each of which keeps the counters tied: what one table lets go is in the hand, and what another
-- takes in comes from there. Each step of the machine is a chain of them, and of these instances of theirs.

use Rattle.std.proofs.Common.{◌≡◌, ◌≢◌, ℕ, suc, ◌+◌, ◌<◌, ◌≤◌, Bool, ◌&&◌, List, [], ◌∷◌, ◌++◌, length, set, Option}
use Rattle.std.proofs.Common.{Some, None, refl, sym, ap, subst, ◌∙◌, inl, inr, arith, nat_eq, length-set}
use Rattle.std.proofs.lemmas.List.{length_push}
use Rattle.pf_tables.proofs.Refusals.{same_some}
use Rattle.pf_tables.proofs.TablesShown.{from_map}
use Rattle.pf_tables.proofs.Common.{option_map, at, put_at, sum_of, weight, one_if, MAX_DESCRIPTORS, ProcessRows}
use Rattle.pf_tables.proofs.Common.{DescriptionRows, PipeRows, Key, Named, Process, Description, Pipe, names_it}
use Rattle.pf_tables.proofs.Common.{keys_of, keys_to, reads_it, writes_it, read_by, written_by, held, NamedRow, UsedRow}
use Rattle.pf_tables.proofs.Common.{TiedWith, cases_eq, cases_lt, eq-eqb, ne_eqb, at_past, at_within, at-put_same}
use Rattle.pf_tables.proofs.Common.{sum_of-set, weight-le-sum_of, Finds, IsEnd}
use Rattle.pf_machine.proofs.NumberedLaws.{at-put_other, at-push_old, at-push_new}
use Rattle.pf_machine.proofs.NumberedLaws.{sum_of-push}
use Rattle.pf_tables.specs.Rows.{named, Each, holding}

-- Each number after one has changed, and after one more

pub by_set : {X : Type 0} (P : ℕ → Option X → Type 0) (xs : List (Option X)) (n : ℕ) (y : Option X) → n < length xs
    → P n y → ((k : ℕ) → k ≢ n → P k (at xs k)) → (k : ℕ) → P k (at (set xs n y) k)
by_set P xs n y l new old k =
    elim (cases_eq k n) [
      | inl same ↦ subst (λ m. P m (at (set xs n y) m)) (sym same) (subst (P n) (sym (at-put_same xs n y l)) new)
      | inr other ↦ subst (P k) (sym (at-put_other xs n k y other)) (old k other)
    ]

pub by_push : {X : Type 0} (P : ℕ → Option X → Type 0) (xs : List (Option X)) (y : Option X) → P (length xs) y
    → ((k : ℕ) → k ≢ length xs → P k (at xs k)) → (k : ℕ) → P k (at (xs ++ y ∷ []) k)
by_push P xs y new old k =
    elim (cases_eq k (length xs)) [
      | inl same ↦ subst (λ m. P m (at (xs ++ y ∷ []) m)) (sym same)
          (subst (P (length xs)) (sym (at-push_new xs y)) new)
      | inr other ↦ subst (P k) (sym (stays other)) (old k other)
    ]
  where
    stays : k ≢ length xs → at (xs ++ y ∷ []) k ≡ at xs k
    stays other =
        elim (cases_lt k (length xs)) [
          | inl l ↦ at-push_old xs y k l
          | inr past ↦ at_past (xs ++ y ∷ []) k (omega (arith, length_push xs y, other, past)) ∙ sym (at_past xs k past)
        ]

-- Keys that find something

-- what stands somewhere is in a place
abbrev IsIn : {T : Type 0} → ℕ → Option (ℕ × T) → Type 0
IsIn place o = option_map (λ e. e.0) o ≡ Some place

pub finds : {T : Type 0} (rows : List (Option (ℕ × T))) (k : Key) → Finds rows k
    → (x : T) × (at rows k.serial ≡ Some (k.slot, x))
finds {T} rows k f =
    let w = from_map (λ (e : ℕ × T). e.0) (at rows k.serial) k.slot f in
    (w.0.1, w.1 ∙ ap (λ m. Some (m, w.0.1)) w.2)

pub found : {T : Type 0} (rows : List (Option (ℕ × T))) (k : Key) (x : T) → at rows k.serial ≡ Some (k.slot, x)
    → Finds rows k
found {T} rows k x h = ap (option_map (λ (e : ℕ × T). e.0)) h

-- what is put in a place is in that place
pub in_place : {T : Type 0} {place : ℕ} {x : T} {e : ℕ × T} → ◌≡◌ {A = Option (ℕ × T)} (Some (place, x)) (Some e)
    → e.0 ≡ place
in_place h = sym (ap (λ e. e.0) (same_some h))

finds-set : {T : Type 0} (rows : List (Option (ℕ × T))) (n : ℕ) (y : Option (ℕ × T)) → n < length rows → (k : Key)
    → (k.serial ≡ n → IsIn k.slot y) → Finds rows k → Finds (set rows n y) k
finds-set rows n y l k new f =
    by_set (λ m o. k.serial ≡ m → IsIn k.slot o) rows n y l new
    (λ m other e. subst (λ s. IsIn k.slot (at rows s)) e f) k.serial refl

finds-push : {T : Type 0} (rows : List (Option (ℕ × T))) (y : Option (ℕ × T)) (k : Key) → Finds rows k
    → Finds (rows ++ y ∷ []) k
finds-push rows y k f =
    let x = finds rows k f in
    subst (IsIn k.slot) (sym (at-push_old rows y k.serial (at_within rows k.serial (k.slot, x.0) x.1))) f

pub finds-new : {T : Type 0} (rows : List (Option (ℕ × T))) (x : T) (k : Key) → k.serial ≡ length rows
    → Finds (rows ++ Some (k.slot, x) ∷ []) k
finds-new rows x k e =
    found (rows ++ Some (k.slot, x) ∷ []) k x (ap (at (rows ++ Some (k.slot, x) ∷ [])) e
    ∙ at-push_new rows (Some (k.slot, x)))

-- What is counted

hit : (n : ℕ) (b : Bool) → one_if (nat_eq n n && b) ≡ one_if b
hit n b = ap (λ c. one_if (c && b)) (eq-eqb n n refl)

pub miss : (m n : ℕ) (b : Bool) → m ≢ n → one_if (nat_eq m n && b) ≡ 0
miss m n b e = ap (λ c. one_if (c && b)) (ne_eqb m n e)

pub names_one : (k : Key) → names_it k.serial k ≡ 1
names_one k = ap one_if (eq-eqb k.serial k.serial refl)

pub names_none : (n : ℕ) (k : Key) → k.serial ≢ n → names_it n k ≡ 0
names_none n k e = ap one_if (ne_eqb k.serial n e)

counts : (ps : ProcessRows) (i m : ℕ) (p : Process) (k : Key) → at ps i ≡ Some p → at (keys_of p) m ≡ Some k
    → 0 < named ps k.serial
counts ps i m p k h g =
    let keys = weight-le-sum_of (keys_to k.serial) ps i in
    let names = weight-le-sum_of (names_it k.serial) (keys_of p) m in
    omega (arith, ap (weight (keys_to k.serial)) h, ap (weight (names_it k.serial)) g, names_one k, keys, names)

pub sides : (d : Description) → (reads_it d.pipe.serial d ≡ one_if d.reads)
    × (writes_it d.pipe.serial d ≡ one_if d.writes)
sides d = (hit d.pipe.serial d.reads, hit d.pipe.serial d.writes)

each-map : {X : Type 0} (f g : ℕ → X → ℕ) (P Q : X → Type 0) (xs : List X)
    → ((x : X) → ((n : ℕ) → f n x ≤ held (f n) xs) → ((n : ℕ) → g n x ≤ held (g n) xs) → P x → Q x) → Each P xs
    → Each Q xs
each-map f g P Q [] h e = e
each-map f g P Q (x ∷ xs) h e = (
  h x (λ n. omega arith) (λ n. omega arith) e.0,
  each-map f g P Q xs
      (λ y a b. h y (λ n. omega (arith, a n)) (λ n. omega (arith, b n))) e.1,
)

pub held-holding : {X : Type 0} (h : X → ℕ) (o : Option X) (xs : List X)
    → held h (holding o xs) ≡ weight h o + held h xs
held-holding h None xs = omega arith
held-holding h (Some x) xs = refl

-- what a description's row counts for a pipe
abbrev pub Row : Type 0
Row = ℕ × Named Description

abbrev reads_row : ℕ → Row → ℕ
reads_row n = λ e. reads_it n e.1.value

abbrev writes_row : ℕ → Row → ℕ
writes_row n = λ e. writes_it n e.1.value

-- a row by what is counted, in the rows and in the hand
abbrev pub Names : ProcessRows → List Key → ℕ → Option Row → Type 0
Names ps K n o = NamedRow (named ps n + held (names_it n) K) o

abbrev pub Uses : DescriptionRows → List Description → ℕ → Option (ℕ × Pipe) → Type 0
Uses ds E n o = UsedRow (read_by ds n + held (reads_it n) E) (written_by ds n + held (writes_it n) E) o

used_as : (o : Option (ℕ × Pipe)) (r w r' w' : ℕ) → UsedRow r w o → r ≡ r' → w ≡ w' → UsedRow r' w' o
used_as o r w r' w' u a b = subst (λ m. UsedRow m w' o) a (subst (λ m. UsedRow r m o) b u)

-- a description with one name
abbrev pub once : Description → Named Description
once d = record { value = d; names = 1 }

module _ {K : List Key} {E : List Description} {ps : ProcessRows} {ds : DescriptionRows} {pipes : PipeRows} where
  -- What stands in a process's place changes: its keys by what is in the hand
  pub reseated : TiedWith K E ps ds pipes → (i : ℕ) → i < length ps → (o : Option Process) (K' : List Key)
      → ((q : Process) → o ≡ Some q → length q.descriptors ≡ 256)
      → ((m : ℕ) (q : Process) (k : Key) → o ≡ Some q → at (keys_of q) m ≡ Some k → Finds ds k) → Each (Finds ds) K'
      → ((n : ℕ) → weight (keys_to n) (at ps i) + held (names_it n) K ≡ weight (keys_to n) o + held (names_it n) K')
      → TiedWith K' E (set ps i o) ds pipes
  reseated t i l o K' wide finds in_hand recount = record {
    places = length-set ps i o ∙ t.places;
    wide = by_set (λ _ x. (q : Process) → x ≡ Some q → length q.descriptors ≡ 256) ps i o l wide (λ j _. t.wide j);
    finds =
        λ j m q k. by_set (λ _ x. (m : ℕ) (q : Process) (k : Key) → x ≡ Some q → at (keys_of q) m ≡ Some k → Finds ds k)
        ps i o l finds (λ b _ m. t.finds b m) j m q k;
    in_hand = in_hand;
    names =
        λ n. subst (λ c. NamedRow c (at ds n)) (omega (arith, sum_of-set (keys_to n) ps i o l, recount n)) (t.names n);
    is_end = t.is_end;
    ends_in_hand = t.ends_in_hand;
    uses = t.uses;
  }

module _ (K : List Key) {E : List Description} {ps : ProcessRows} {ds : DescriptionRows} {pipes : PipeRows} where
  -- 1. One of a process's keys is set: what was there comes into the hand, and what is put there leaves it
  module _ (i m : ℕ) (p p' : Process) (stands : at ps i ≡ Some p) (m_in : m < 257) (o : Option Key)
      (is : keys_of p' ≡ set (keys_of p) m o) (t : TiedWith (holding o K) E ps ds pipes) where
    width : length p.descriptors ≡ 256
    width = t.wide i p stands

    recount : (n : ℕ) → weight (keys_to n) (at ps i) + held (names_it n) (holding o K)
        ≡ keys_to n p' + held (names_it n) (holding (at (keys_of p) m) K)
    recount n =
        let h = names_it n in
        let changed = sum_of-set h (keys_of p) m o (omega (arith, width, m_in)) in
        omega (
          arith,
          ap (weight (keys_to n)) stands,
          ap (λ ks. sum_of h ks) is,
          changed,
          held-holding h o K,
          held-holding h (at (keys_of p) m) K,
        )

    let_go : (x : Option Key) → Each (Finds ds) (holding x K)
        → ((k : Key) → x ≡ Some k → Finds ds k) × Each (Finds ds) K
    let_go None e = (λ k h. absurd (cc), e)
    let_go (Some j) e = (λ k h. let it : j ≡ k = cc in subst (Finds ds) it e.0, e.1)

    take_up : (x : Option Key) → ((k : Key) → x ≡ Some k → Finds ds k) → Each (Finds ds) K
        → Each (Finds ds) (holding x K)
    take_up None f e = e
    take_up (Some k) f e = (f k refl, e)

    pub moved : TiedWith (holding (at (keys_of p) m) K) E (put_at ps i p') ds pipes
    moved =
        reseated t i (at_within ps i p stands) (Some p') (holding (at (keys_of p) m) K)
        (λ q e. let it : p' ≡ q = cc in ap (λ (x : Process). length x.descriptors) (sym it)
        ∙ omega (arith, ap length is, length-set (keys_of p) m o, width))
        (λ n q k e g. let it : p' ≡ q = cc in
        by_set (λ _ x. x ≡ Some k → Finds ds k) (keys_of p) m o (omega (arith, width, m_in)) ((let_go o t.in_hand).0 k)
        (λ b _. t.finds i b p k stands) n (sym (ap (λ ks. at ks n) is) ∙ ap (λ (x : Process). at (keys_of x) n) it ∙ g))
        (take_up (at (keys_of p) m) (λ k. t.finds i m p k stands) (let_go o t.in_hand).1) recount

module _ {K : List Key} {E : List Description} {ps : ProcessRows} {ds : DescriptionRows} {pipes : PipeRows} where
  -- 2. A description changes or goes: its names by what is in the hand, its ends too
  module _ (t : TiedWith K E ps ds pipes) (s : ℕ) (row : Row) (stands : at ds s ≡ Some row) (y : Option Row)
      (K' : List Key) (E' : List Description)
      (same_place : (e : Row) → y ≡ Some e → (e.0 ≡ row.0) × IsEnd pipes e.1.value) (in_hand : Each (Finds ds) K')
      (others : (n : ℕ) → n ≢ s → held (names_it n) K ≡ held (names_it n) K') (is : Names ps K' s y)
      (ends_in_hand : Each (IsEnd pipes) E')
      (reads : (n : ℕ) → weight (reads_row n) y + held (reads_it n) E' ≡ reads_row n row + held (reads_it n) E)
      (writes : (n : ℕ) → weight (writes_row n) y + held (writes_it n) E' ≡ writes_row n row
      + held (writes_it n) E) where
    row_within : s < length ds
    row_within = at_within ds s row stands

    still_finds : (k : Key) → (k.serial ≡ s → 0 < named ps s + held (names_it s) K') → Finds ds k → Finds (set ds s y) k
    still_finds k some f = finds-set ds s y row_within k (λ e. by_row y refl is (some e) e) f
      where
        by_row : (o : Option Row) → y ≡ o → Names ps K' s o → 0 < named ps s + held (names_it s) K' → k.serial ≡ s
            → IsIn k.slot o
        by_row None h none l e = absurd (omega (arith, none, l))
        by_row (Some x) h c l e =
            ap Some (same_place x h).0 ∙ subst (IsIn k.slot) (ap (at ds) e ∙ stands) f

    pub redescribed : TiedWith K' E' ps (set ds s y) pipes
    redescribed = record {
      places = t.places;
      wide = t.wide;
      finds =
          λ i fd p k h g. still_finds k (λ e. omega (arith, counts ps i fd p k h g, ap (named ps) e))
          (t.finds i fd p k h g);
      in_hand =
          each-map names_it names_it (Finds ds) (Finds (set ds s y)) K'
          (λ k a _. still_finds k (λ e. omega (arith, names_one k, a k.serial, ap (λ m. held (names_it m) K') e)))
          in_hand;
      names =
          by_set (Names ps K') ds s y row_within is
          (λ n ne. subst (λ c. NamedRow (named ps n + c) (at ds n)) (others n ne) (t.names n));
      is_end =
          λ n e. by_set (λ _ x. x ≡ Some e → IsEnd pipes e.1.value) ds s y row_within (λ h. (same_place e h).1)
          (λ m _. t.is_end m e) n;
      ends_in_hand = ends_in_hand;
      uses = λ n. used_as (at pipes n) _ _ _ _ (t.uses n)
          (omega (arith, sum_of-set (reads_row n) ds s y row_within, ap (weight (reads_row n)) stands, reads n))
          (omega (arith, sum_of-set (writes_row n) ds s y row_within, ap (weight (writes_row n)) stands, writes n));
    }

  -- 3. A pipe changes or goes
  module _ (t : TiedWith K E ps ds pipes) (s : ℕ) (row : ℕ × Pipe) (stands : at pipes s ≡ Some row)
      (y : Option (ℕ × Pipe)) (E' : List Description) (same_place : (e : ℕ × Pipe) → y ≡ Some e → e.0 ≡ row.0)
      (ends_in_hand : Each (IsEnd pipes) E') (others : (n : ℕ) → n ≢ s → (held (reads_it n) E ≡ held (reads_it n) E')
      × (held (writes_it n) E ≡ held (writes_it n) E')) (is : Uses ds E' s y) where
    pipe_within : s < length pipes
    pipe_within = at_within pipes s row stands

    still_end : (d : Description)
        → reads_it d.pipe.serial d ≤ read_by ds d.pipe.serial + held (reads_it d.pipe.serial) E'
        → writes_it d.pipe.serial d ≤ written_by ds d.pipe.serial + held (writes_it d.pipe.serial) E'
        → IsEnd pipes d → IsEnd (set pipes s y) d
    still_end d r w f = (finds-set pipes s y pipe_within d.pipe (λ e. by_row y refl is e) f.0, f.1)
      where
        by_row : (o : Option (ℕ × Pipe)) → y ≡ o → Uses ds E' s o → d.pipe.serial ≡ s → IsIn d.pipe.slot o
        by_row None h none e =
            let none' = rw (← e) at none in
            absurd (omega (arith, none'.0, none'.1, r, w, (sides d).0, (sides d).1, f.1))
        by_row (Some x) h c e =
            ap Some (same_place x h) ∙ subst (IsIn d.pipe.slot) (ap (at pipes) e ∙ stands) f.0

    pub repiped : TiedWith K E' ps ds (set pipes s y)
    repiped = record {
      places = t.places;
      wide = t.wide;
      finds = t.finds;
      in_hand = t.in_hand;
      names = t.names;
      is_end = λ n e h.
          let reads = reads_row e.1.value.pipe.serial in
          let writes = writes_row e.1.value.pipe.serial in
          still_end e.1.value (omega (arith, weight-le-sum_of reads ds n, ap (weight reads) h))
          (omega (arith, weight-le-sum_of writes ds n, ap (weight writes) h)) (t.is_end n e h);
      ends_in_hand =
          each-map reads_it writes_it (IsEnd pipes) (IsEnd (set pipes s y)) E'
          (λ d a b. still_end d (omega (arith, a d.pipe.serial)) (omega (arith, b d.pipe.serial))) ends_in_hand;
      uses =
          by_set (Uses ds E') pipes s y pipe_within is
          (λ n ne. used_as (at pipes n) _ _ _ _ (t.uses n) (omega (arith, (others n ne).0))
          (omega (arith, (others n ne).1)));
    }

  -- 4. A description that was in the hand is made, and its one name is in the hand
  pub described : (k : Key) (d : Description) → k.serial ≡ length ds → TiedWith K (d ∷ E) ps ds pipes
      → TiedWith (k ∷ K) E ps (ds ++ Some (k.slot, once d) ∷ []) pipes
  described k d k_is t =
      let none : Names ps K (length ds) None =
      subst (NamedRow _) (at_past ds (length ds) (omega arith)) (t.names (length ds)) in
      let row : Option Row = Some (k.slot, once d) in
      let one : names_it (length ds) k ≡ 1 = subst (λ n. names_it n k ≡ 1) k_is (names_one k) in
      record {
        places = t.places;
        wide = t.wide;
        finds = λ i fd p j h g. finds-push ds row j (t.finds i fd p j h g);
        in_hand = (
          finds-new ds (once d) k k_is,
          each-map names_it names_it (Finds ds) (Finds (ds ++ row ∷ [])) K (λ j _ _. finds-push ds row j) t.in_hand,
        );
        names =
            by_push (Names ps (k ∷ K)) ds row (omega (arith, none, one), omega (arith, none, one))
            (λ n ne. subst (λ c. NamedRow (named ps n + c) (at ds n))
            (omega (arith, names_none n k (λ e. ne (sym e ∙ k_is)))) (t.names n));
        is_end =
            λ n e. by_push (λ _ x. x ≡ Some e → IsEnd pipes e.1.value) ds row
            (λ h. subst (λ (x : Row). IsEnd pipes x.1.value) (same_some h) t.ends_in_hand.0) (λ m _. t.is_end m e) n;
        ends_in_hand = t.ends_in_hand.1;
        uses = λ n. used_as (at pipes n) _ _ _ _ (t.uses n) (omega (arith, sum_of-push (reads_row n) ds row))
            (omega (arith, sum_of-push (writes_row n) ds row));
      }

  -- 5. A pipe is made, and its ends are in the hand
  pub piped : (r : Key) (p : Pipe) (E' : List Description) → r.serial ≡ length pipes
      → Each (IsEnd (pipes ++ Some (r.slot, p) ∷ [])) E'
      → ((n : ℕ) → n ≢ r.serial → (held (reads_it n) E ≡ held (reads_it n) E')
      × (held (writes_it n) E ≡ held (writes_it n) E'))
      → p.readers ≡ held (reads_it r.serial) E' → p.writers ≡ held (writes_it r.serial) E' → 0 < p.readers + p.writers
      → TiedWith K E ps ds pipes → TiedWith K E' ps ds (pipes ++ Some (r.slot, p) ∷ [])
  piped r p E' r_is ends_in_hand others readers writers some t =
      let none : Uses ds E r.serial None =
      subst (UsedRow _ _) (at_past pipes r.serial (omega (arith, r_is))) (t.uses r.serial) in
      record {
        places = t.places;
        wide = t.wide;
        finds = t.finds;
        in_hand = t.in_hand;
        names = t.names;
        is_end = λ n e h. let end = t.is_end n e h in (finds-push pipes (Some (r.slot, p)) e.1.value.pipe end.0, end.1);
        ends_in_hand = ends_in_hand;
        uses =
            by_push (Uses ds E') pipes (Some (r.slot, p))
            (subst (λ n. Uses ds E' n (Some (r.slot, p))) r_is (
              omega (arith, none.0, readers),
              omega (arith, none.1, writers),
              omega (arith, none.0, none.1, readers, writers, some),
            ))
            (λ n ne. let o = others n (λ e. ne (e ∙ r_is)) in used_as (at pipes n) _ _ _ _ (t.uses n)
            (omega (arith, o.0)) (omega (arith, o.1)));
      }

-- a description in its place is an end there
pub place_and_end : (pipes : PipeRows) (place : ℕ) (d : Named Description) → IsEnd pipes d.value
    → (e : Row) → ◌≡◌ {A = Option Row} (Some (place, d)) (Some e) → (e.0 ≡ place) × IsEnd pipes e.1.value
place_and_end pipes place d end e h = (in_place h, subst (λ (x : Row). IsEnd pipes x.1.value) (same_some h) end)

-- What a row of tied tables counts, and instances

module _ {K : List Key} {E : List Description} {ps : ProcessRows} {ds : DescriptionRows} {pipes : PipeRows} where
  pub names_row : (k : Key) (d : Named Description) → at ds k.serial ≡ Some (k.slot, d) → TiedWith K E ps ds pipes
      → Names ps K k.serial (Some (k.slot, d))
  names_row k d stands t = subst (NamedRow _) stands (t.names k.serial)

  module _ (r : Key) (p : Pipe) (stands : at pipes r.serial ≡ Some (r.slot, p)) where
    pub pipe_row : TiedWith K E ps ds pipes → Uses ds E r.serial (Some (r.slot, p))
    pipe_row t = subst (UsedRow _ _) stands (t.uses r.serial)

    -- another ring
    pub requeued : (w : Pipe) → w.readers ≡ p.readers → w.writers ≡ p.writers → TiedWith K E ps ds pipes
        → TiedWith K E ps ds (put_at pipes r.serial (r.slot, w))
    requeued w a b t =
        repiped t r.serial (r.slot, p) stands (Some (r.slot, w)) E (λ e h. in_place h) t.ends_in_hand
        (λ n _. (refl, refl))
        (let c = pipe_row t in (a ∙ c.0, b ∙ c.1, c.2))

  -- a key goes from the hand into an empty descriptor
  pub put : (i fd : ℕ) (p : Process) → at ps i ≡ Some p → fd < MAX_DESCRIPTORS → (k : Key)
      → at p.descriptors fd ≡ None → TiedWith (k ∷ K) E ps ds pipes
      → TiedWith K E (put_at ps i (record p { descriptors = put_at p.descriptors fd k })) ds pipes
  put i fd p stands fd_in k e t =
      let q = record p { descriptors = put_at p.descriptors fd k } in
      subst (λ o. TiedWith (holding o K) E (put_at ps i q) ds pipes) e
      (moved K i (suc fd) p q stands (omega arith) (Some k) refl t)

use Rattle.std.proofs.Common.{◌≡◌, List, ◌++◌, length, take, drop, sym, ap, ◌∙◌, subst, arith}
use Rattle.std.proofs.lemmas.List.{length-take-le, take_at}
use Rattle.std.proofs.lemmas.Slice.{drop-append-drop}
use Rattle.records.specs.declared.PlaceRecord.{PlaceRecord}
use Rattle.records.specs.declared.SlotRecord.{SlotRecord}
use Rattle.renumbering.specs.Drafts.{Renumbered, Renumbers}
use Rattle.reading.specs.Drafts.{Draft}
use Rattle.placing.specs.Arranged.{Arranged, drafted}
use Rattle.placing.proofs.Sheeting.{sheet_read}
use Rattle.placing.proofs.place.write_sheet.Goals as goal

-- the tables that are numbered hold the draft
fronts : {K F : Type 0} (form : K → F) (d : Draft K) (n m : _) (ps more : List (PlaceRecord F)) (ss others : List SlotRecord) → length ps ≡ n → length ss ≡ m → Arranged form d ps ss
    → Arranged form d (take n (ps ++ more)) (take m (ss ++ others))
fronts form d n m ps more ss others long wide h =
    subst (λ l. Arranged form d l (take m (ss ++ others))) (sym (take_at ps more n long)) (subst (Arranged form d ps) (sym (take_at ss others m wide)) h)

pub unwrap-requires : goal.unwrap-requires
unwrap-requires g c =
    let dp = c.args.draft.places.now in
    let ds = c.args.draft.slots.now in
    let long : length c.arrange.new.places ≡ length dp = c.arrange.auto.places ∙ length-take-le (length dp) c.args.work_places.now c.requires.places.1.1 in
    let wide : length c.arrange.new.slots ≡ length ds = c.arrange.auto.slots ∙ length-take-le (length ds) c.args.work_slots.now c.requires.slots.1.1 in
    let a = fronts g.K.Kind.form (drafted dp ds) (length dp) (length ds) c.arrange.new.places (drop (length dp) c.args.work_places.now) c.arrange.new.slots (drop (length ds) c.args.work_slots.now) long wide c.arrange.ensures in
    let p = take_at c.arrange.new.places (drop (length dp) c.args.work_places.now) (length dp) long in
    let s = take_at c.arrange.new.slots (drop (length ds) c.args.work_slots.now) (length ds) wide in
    c.renumber.ensures.answer.1 (record { draft = a.draft; places = omega (arith, ap length p, long, c.requires.places.1.0); slots = omega (arith, ap length s, wide, c.requires.slots.1.0) })

pub returns-clause-sheet : goal.returns-clause-sheet
returns-clause-sheet g c =
    let dp = c.args.draft.places.now in
    let ds = c.args.draft.slots.now in
    let wp = c.args.work_places.now in
    let ws = c.args.work_slots.now in
    let ap₁ = c.arrange.new.places in
    let as₁ = c.arrange.new.slots in
    let long : length ap₁ ≡ length dp = c.arrange.auto.places ∙ length-take-le (length dp) wp c.requires.places.1.1 in
    let wide : length as₁ ≡ length ds = c.arrange.auto.slots ∙ length-take-le (length ds) ws c.requires.slots.1.1 in
    let a = fronts g.K.Kind.form (drafted dp ds) (length dp) (length ds) ap₁ (drop (length dp) wp) as₁ (drop (length ds) ws) long wide c.arrange.ensures in
    let p = take_at ap₁ (drop (length dp) wp) (length dp) long in
    let s = take_at as₁ (drop (length ds) ws) (length ds) wide in
    let tp = take (length dp) (ap₁ ++ drop (length dp) wp) in
    let ts = take (length ds) (as₁ ++ drop (length ds) ws) in
    let oldp = c.args.places.now in
    let olds = c.args.slots.now in
    let newp = c.renumber.new.outp in
    let news = c.renumber.new.outs in
    let h : Renumbered tp ts c.unwrap.result oldp newp olds news = subst (λ r. Renumbers tp ts r oldp newp olds news) c.unwrap.ensures c.renumber.ensures.written in
    let n : length tp ≡ length dp = ap length p ∙ long in
    let m : length ts ≡ length ds = ap length s ∙ wide in
    sheet_read g.K.Kind.laws (drafted dp ds) c.requires.sound tp ts a c.unwrap.result oldp newp olds news h (omega (arith, n, c.renumber.auto.outp, c.requires.places.1.0)) (omega (arith, m, c.renumber.auto.outs, c.requires.slots.1.0))

pub returns-clause-work_places : goal.returns-clause-work_places
returns-clause-work_places g c =
    let n = length c.args.draft.places.now in
    drop-append-drop n c.args.work_places.now c.arrange.new.places 1000 c.requires.places.0 (c.arrange.auto.places ∙ length-take-le n c.args.work_places.now c.requires.places.1.1)

pub returns-clause-work_slots : goal.returns-clause-work_slots
returns-clause-work_slots g c =
    let n = length c.args.draft.slots.now in
    drop-append-drop n c.args.work_slots.now c.arrange.new.slots 4000 c.requires.slots.0 (c.arrange.auto.slots ∙ length-take-le n c.args.work_slots.now c.requires.slots.1.1)

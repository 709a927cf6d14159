-- What holds between the tokens of a form as it is read.
use Rattle.std.specs.Prelude.{◌≡◌, length, Ok, Err, Result}
use Rattle.reading.specs.declared.fault.ReadFault.{ReadFault}
use Rattle.reading.specs.declared.drafting.reader.DraftReader.{DraftReader}
use Rattle.reading.specs.declared.form.Stage.{Stage}
use Rattle.reading.specs.declared.form.Stage.TheVariants as stage
use Rattle.reading.specs.declared.form.Form.{Form}
use Rattle.reading.specs.Readers.{read}

-- before the place or the kind begins, its draft is as the other's
abbrev pub alike : {X : Type 0} → Stage → X → X → Type 0
alike stage.Begin d e = d ≡ e
alike stage.Opened d e = d ≡ e
alike (stage.Path v) d e = d ≡ e
alike (stage.InPath v) d e = d ≡ e
alike stage.SecondPath d e = Unit {0}
alike stage.InSecondPath d e = Unit {0}
alike stage.Place d e = Unit {0}
alike stage.Kind d e = Unit {0}
alike stage.Range d e = Unit {0}
alike (stage.Close v) d e = Unit {0}
alike (stage.Closed v) d e = Unit {0}

module _ {K : Type 0} where
  -- the kind has room for one place and for no slot
  pub record FormHeld (f : Form) (place kind : DraftReader K) : Type 0 where
    pub single : length kind.places.now ≡ 1
    pub none : length kind.slots.now ≡ 0
    pub same : alike f.stage (read place) (read kind)

  abbrev pub FormHeldOk : Result Form ReadFault → DraftReader K → DraftReader K → Type 0
  FormHeldOk (Ok f) place kind = FormHeld f place kind
  FormHeldOk (Err x) place kind = Unit {0}

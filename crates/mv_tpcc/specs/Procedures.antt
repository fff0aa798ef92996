-- The procedures of TPC-C 5.11 as this project has them, each with an empty line before it.
use Rattle.std.specs.Prelude.{ℕ, List, [], ◌∷◌, codes}
use Rattle.mv_values.specs.Texts.{lines_text}

-- enters an order of several lines
unfoldable pub new_order : List ℕ
new_order = lines_text (
    codes "" ∷
    codes "CREATE PROCEDURE new_order (:w INT, :d INT, :c INT, :date INT, :lines ROWS (i INT, s INT, q INT))" ∷
    codes "DECLARE :wtax = 0; DECLARE :dtax = 0; DECLARE :o = 0; DECLARE :disc = 0; DECLARE :last = '';" ∷
    codes "DECLARE :credit = ''; DECLARE :n = 0; DECLARE :local = 1; DECLARE :price = 0;" ∷
    codes "DECLARE :iname = ''; DECLARE :idata = ''; DECLARE :sq = 0; DECLARE :sq2 = 0;" ∷
    codes "DECLARE :sdata = ''; DECLARE :amount = 0; DECLARE :sum = 0; DECLARE :brand = '';" ∷
    codes "DECLARE :total = 0;" ∷
    codes "BEGIN" ∷
    codes "  SELECT w_tax INTO :wtax FROM warehouse WHERE w_id = :w;" ∷
    codes "  SELECT d_tax INTO :dtax FROM district WHERE d_w_id = :w AND d_id = :d;" ∷
    codes "  SELECT d_next_o_id INTO :o FROM district WHERE d_w_id = :w AND d_id = :d;" ∷
    codes "  UPDATE district SET d_next_o_id = d_next_o_id + 1 WHERE d_w_id = :w AND d_id = :d;" ∷
    codes "  SELECT c_discount, c_last, c_credit INTO :disc, :last, :credit FROM customer" ∷
    codes "    WHERE c_w_id = :w AND c_d_id = :d AND c_id = :c;" ∷
    codes "  FOR :l IN :lines DO" ∷
    codes "    SET :n = :n + 1;" ∷
    codes "    IF :l.s <> :w THEN SET :local = 0; END IF;" ∷
    codes "  END FOR;" ∷
    codes "  INSERT INTO orders VALUES (:w, :d, :o, :c, :date, 0, :n, :local);" ∷
    codes "  INSERT INTO new_order VALUES (:w, :d, :o);" ∷
    codes "  SET :n = 0;" ∷
    codes "  FOR :l IN :lines DO" ∷
    codes "    SET :n = :n + 1;" ∷
    codes "    SELECT i_price, i_name, i_data INTO :price, :iname, :idata FROM item" ∷
    codes "      WHERE i_id = :l.i;" ∷
    codes "    IF :found = 0 THEN ROLLBACK 'Item number is not valid'; END IF;" ∷
    codes "    SELECT s_quantity, s_data INTO :sq, :sdata FROM stock" ∷
    codes "      WHERE s_w_id = :l.s AND s_i_id = :l.i;" ∷
    codes "    IF :sq >= :l.q + 10 THEN SET :sq2 = :sq - :l.q;" ∷
    codes "    ELSE SET :sq2 = :sq - :l.q + 91; END IF;" ∷
    codes "    UPDATE stock SET s_quantity = :sq2, s_ytd = s_ytd + :l.q, s_order_cnt = s_order_cnt + 1" ∷
    codes "      WHERE s_w_id = :l.s AND s_i_id = :l.i;" ∷
    codes "    IF :l.s <> :w THEN UPDATE stock SET s_remote_cnt = s_remote_cnt + 1" ∷
    codes "      WHERE s_w_id = :l.s AND s_i_id = :l.i; END IF;" ∷
    codes "    SET :amount = :l.q * :price;" ∷
    codes "    SET :sum = :sum + :amount;" ∷
    codes "    IF CONTAINS(:idata, 'ORIGINAL') AND CONTAINS(:sdata, 'ORIGINAL')" ∷
    codes "    THEN SET :brand = 'B'; ELSE SET :brand = 'G'; END IF;" ∷
    codes "    INSERT INTO order_line VALUES (:w, :d, :o, :n, :l.i, :l.s, 0, :l.q, :amount);" ∷
    codes "    PRINT :l.i, :iname, :l.q, :sq2, :brand, :price, :amount;" ∷
    codes "  END FOR;" ∷
    codes "  SET :total = :sum * (10000 - :disc) * (10000 + :wtax + :dtax) / 100000000;" ∷
    codes "  PRINT :o, :last, :credit, :disc, :wtax, :dtax, :n, :total;" ∷
    codes "END;" ∷ [])

-- takes a payment of a customer
unfoldable pub payment : List ℕ
payment = lines_text (
    codes "" ∷
    codes "CREATE PROCEDURE payment (:w INT, :d INT, :cw INT, :cd INT, :c INT, :last TEXT(16)," ∷
    codes "  :amount INT, :date INT, :h INT)" ∷
    codes "DECLARE :wname = ''; DECLARE :dname = ''; DECLARE :id = 0; DECLARE :n = 0;" ∷
    codes "DECLARE :credit = ''; DECLARE :data = ''; DECLARE :bal = 0;" ∷
    codes "BEGIN" ∷
    codes "  UPDATE warehouse SET w_ytd = w_ytd + :amount WHERE w_id = :w;" ∷
    codes "  SELECT w_name INTO :wname FROM warehouse WHERE w_id = :w;" ∷
    codes "  UPDATE district SET d_ytd = d_ytd + :amount WHERE d_w_id = :w AND d_id = :d;" ∷
    codes "  SELECT d_name INTO :dname FROM district WHERE d_w_id = :w AND d_id = :d;" ∷
    codes "  SET :id = :c;" ∷
    codes "  IF :c = 0 THEN" ∷
    codes "    SELECT COUNT(*) INTO :n FROM customer WHERE c_w_id = :cw AND c_d_id = :cd AND c_last = :last;" ∷
    codes "    IF :n = 0 THEN ROLLBACK 'no customer'; END IF;" ∷
    codes "    SELECT c_id INTO :id FROM customer WHERE c_w_id = :cw AND c_d_id = :cd AND c_last = :last" ∷
    codes "      ORDER BY c_first OFFSET (:n + 1) / 2 - 1;" ∷
    codes "  END IF;" ∷
    codes "  UPDATE customer SET c_balance = c_balance - :amount, c_ytd_payment = c_ytd_payment + :amount," ∷
    codes "    c_payment_cnt = c_payment_cnt + 1 WHERE c_w_id = :cw AND c_d_id = :cd AND c_id = :id;" ∷
    codes "  SELECT c_credit, c_data, c_balance INTO :credit, :data, :bal FROM customer" ∷
    codes "    WHERE c_w_id = :cw AND c_d_id = :cd AND c_id = :id;" ∷
    codes "  IF :credit = 'BC' THEN" ∷
    codes "    UPDATE customer SET c_data = LEFT(TEXTOF(:id) || ' ' || TEXTOF(:cd) || ' ' || TEXTOF(:cw)" ∷
    codes "      || ' ' || TEXTOF(:d) || ' ' || TEXTOF(:w) || ' ' || TEXTOF(:amount) || ' ' || :data, 500)" ∷
    codes "      WHERE c_w_id = :cw AND c_d_id = :cd AND c_id = :id;" ∷
    codes "  END IF;" ∷
    codes "  INSERT INTO history VALUES (:h, :id, :cd, :cw, :d, :w, :date, :amount," ∷
    codes "    :wname || '    ' || :dname);" ∷
    codes "  PRINT :id, :credit, :bal, :amount;" ∷
    codes "END;" ∷ [])

-- tells a customer's last order
unfoldable pub order_status : List ℕ
order_status = lines_text (
    codes "" ∷
    codes "CREATE PROCEDURE order_status (:w INT, :d INT, :c INT, :last TEXT(16))" ∷
    codes "DECLARE :id = 0; DECLARE :n = 0; DECLARE :bal = 0; DECLARE :first = ''; DECLARE :lname = '';" ∷
    codes "DECLARE :o = 0; DECLARE :e = 0; DECLARE :k = 0;" ∷
    codes "BEGIN" ∷
    codes "  SET :id = :c;" ∷
    codes "  IF :c = 0 THEN" ∷
    codes "    SELECT COUNT(*) INTO :n FROM customer WHERE c_w_id = :w AND c_d_id = :d AND c_last = :last;" ∷
    codes "    IF :n = 0 THEN ROLLBACK 'no customer'; END IF;" ∷
    codes "    SELECT c_id INTO :id FROM customer WHERE c_w_id = :w AND c_d_id = :d AND c_last = :last" ∷
    codes "      ORDER BY c_first OFFSET (:n + 1) / 2 - 1;" ∷
    codes "  END IF;" ∷
    codes "  SELECT c_balance, c_first, c_last INTO :bal, :first, :lname FROM customer" ∷
    codes "    WHERE c_w_id = :w AND c_d_id = :d AND c_id = :id;" ∷
    codes "  PRINT :id, :bal, :first, :lname;" ∷
    codes "  SELECT o_id, o_entry_d, o_carrier_id INTO :o, :e, :k FROM orders" ∷
    codes "    WHERE o_w_id = :w AND o_d_id = :d AND o_c_id = :id ORDER BY o_id DESC;" ∷
    codes "  IF :found = 1 THEN" ∷
    codes "    PRINT :o, :e, :k;" ∷
    codes "    FOR :r IN SELECT ol_i_id, ol_supply_w_id, ol_quantity, ol_amount, ol_delivery_d" ∷
    codes "      FROM order_line WHERE ol_w_id = :w AND ol_d_id = :d AND ol_o_id = :o DO" ∷
    codes "      PRINT :r.ol_i_id, :r.ol_supply_w_id, :r.ol_quantity, :r.ol_amount, :r.ol_delivery_d;" ∷
    codes "    END FOR;" ∷
    codes "  END IF;" ∷
    codes "END;" ∷ [])

-- delivers the oldest order of each district
unfoldable pub delivery : List ℕ
delivery = lines_text (
    codes "" ∷
    codes "CREATE PROCEDURE delivery (:w INT, :carrier INT, :date INT)" ∷
    codes "DECLARE :o = 0; DECLARE :c = 0; DECLARE :sum = 0;" ∷
    codes "BEGIN" ∷
    codes "  FOR :r IN SELECT d_id FROM district WHERE d_w_id = :w DO" ∷
    codes "    SELECT MIN(no_o_id) INTO :o FROM new_order WHERE no_w_id = :w AND no_d_id = :r.d_id;" ∷
    codes "    IF :found = 1 THEN" ∷
    codes "      DELETE FROM new_order WHERE no_w_id = :w AND no_d_id = :r.d_id AND no_o_id = :o;" ∷
    codes "      SELECT o_c_id INTO :c FROM orders WHERE o_w_id = :w AND o_d_id = :r.d_id AND o_id = :o;" ∷
    codes "      UPDATE orders SET o_carrier_id = :carrier" ∷
    codes "        WHERE o_w_id = :w AND o_d_id = :r.d_id AND o_id = :o;" ∷
    codes "      UPDATE order_line SET ol_delivery_d = :date" ∷
    codes "        WHERE ol_w_id = :w AND ol_d_id = :r.d_id AND ol_o_id = :o;" ∷
    codes "      SELECT SUM(ol_amount) INTO :sum FROM order_line" ∷
    codes "        WHERE ol_w_id = :w AND ol_d_id = :r.d_id AND ol_o_id = :o;" ∷
    codes "      UPDATE customer SET c_balance = c_balance + :sum, c_delivery_cnt = c_delivery_cnt + 1" ∷
    codes "        WHERE c_w_id = :w AND c_d_id = :r.d_id AND c_id = :c;" ∷
    codes "      PRINT :r.d_id, :o;" ∷
    codes "    END IF;" ∷
    codes "  END FOR;" ∷
    codes "END;" ∷ [])

-- counts the items of the last twenty orders that run short
unfoldable pub stock_level : List ℕ
stock_level = lines_text (
    codes "" ∷
    codes "CREATE PROCEDURE stock_level (:w INT, :d INT, :t INT)" ∷
    codes "DECLARE :o = 0; DECLARE :k = 0; DECLARE :n = 0;" ∷
    codes "BEGIN" ∷
    codes "  SELECT d_next_o_id INTO :o FROM district WHERE d_w_id = :w AND d_id = :d;" ∷
    codes "  FOR :r IN SELECT DISTINCT ol_i_id FROM order_line" ∷
    codes "    WHERE ol_w_id = :w AND ol_d_id = :d AND ol_o_id >= :o - 20 AND ol_o_id < :o DO" ∷
    codes "    SELECT COUNT(*) INTO :k FROM stock" ∷
    codes "      WHERE s_w_id = :w AND s_i_id = :r.ol_i_id AND s_quantity < :t;" ∷
    codes "    SET :n = :n + :k;" ∷
    codes "  END FOR;" ∷
    codes "  PRINT :n;" ∷
    codes "END;" ∷ [])

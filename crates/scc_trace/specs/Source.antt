-- The source of a generated design: a row of stages, each a thread that adds the stage's number. This project's own.
use Rattle.std.specs.Prelude.{ℕ, ◌++◌, codes, decimal}
use Rattle.scc_trace.specs.Cut.{Bytes}

unfoldable pub source_before : Bytes
source_before = codes "#include <systemc.h>\nconst int N = "

unfoldable pub source_behind : Bytes
source_behind =
    codes ";\n"
    ++ codes "SC_MODULE(Stage) {\n"
    ++ codes "  sc_in<bool> clk, rst;\n"
    ++ codes "  sc_in<sc_uint<16> > d;\n"
    ++ codes "  sc_out<sc_uint<16> > q;\n"
    ++ codes "  int step;\n"
    ++ codes "  void run() {\n"
    ++ codes "    q.write(0);\n"
    ++ codes "    wait();\n"
    ++ codes "    while (true) { q.write(d.read() + step); wait(); }\n"
    ++ codes "  }\n"
    ++ codes "  SC_HAS_PROCESS(Stage);\n"
    ++ codes "  Stage(sc_module_name nm, int k) : sc_module(nm), step(k) {\n"
    ++ codes "    SC_CTHREAD(run, clk.pos());\n"
    ++ codes "    reset_signal_is(rst, true);\n"
    ++ codes "  }\n"
    ++ codes "};\n"
    ++ codes "SC_MODULE(Gen) {\n"
    ++ codes "  sc_in<bool> clk, rst;\n"
    ++ codes "  sc_in<sc_uint<16> > d;\n"
    ++ codes "  sc_out<sc_uint<16> > q;\n"
    ++ codes "  sc_vector<sc_signal<sc_uint<16> > > s;\n"
    ++ codes "  Stage* u[N];\n"
    ++ codes "  void front() { s[0].write(d.read()); }\n"
    ++ codes "  void back() { q.write(s[N].read()); }\n"
    ++ codes "  SC_CTOR(Gen) : s(\"s\", N + 1) {\n"
    ++ codes "    for (int i = 0; i < N; i++) {\n"
    ++ codes "      u[i] = new Stage(\"u\", i + 1);\n"
    ++ codes "      u[i]->clk(clk); u[i]->rst(rst);\n"
    ++ codes "      u[i]->d(s[i]); u[i]->q(s[i + 1]);\n"
    ++ codes "    }\n"
    ++ codes "    SC_METHOD(front); sensitive << d;\n"
    ++ codes "    SC_METHOD(back); sensitive << s[N];\n"
    ++ codes "  }\n"
    ++ codes "};\n"

-- the source with so many stages
unfoldable pub source_of : ℕ → Bytes
source_of number = source_before ++ decimal number ++ source_behind
